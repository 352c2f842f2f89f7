use Rattle.sql_rows.proofs.Asking.{asks_rows}
use Rattle.sql_lookups.proofs.reports.reports.Goals as goal

pub returns : goal.returns
returns g c = record { asks = asks_rows c.list.ensures.shows c.listed.ensures.ok c.listed.ensures.rows (λ db rows is. is) }
