use Rattle.sql_edits.proofs.MarkLaws.{takes_back, takes_err}
use Rattle.sql_edits.proofs.changes.take_back.Goals as goal

pub returns : goal.returns
returns g c = record { takes_back = takes_back c.in_ok-go_back.ensures.goes_back c.release.ensures.releases }

pub returns-in_err-go_back : goal.returns-in_err-go_back
returns-in_err-go_back g c = record { takes_back = takes_err c.in_err-go_back.ensures.goes_back c.from_residual.ensures.0 }
