use Rattle.std.proofs.Common.{subst, sym}
use Rattle.sqlite.specs.Held.{state}
use Rattle.sql_edits.specs.Batches.{TellsGoing}
use Rattle.sql_edits.proofs.MarkLaws.{going_if, not_going}
use Rattle.sql_edits.proofs.batches.goes_on.Goals as goal

pub returns-in-Ok : goal.returns-in-Ok
returns-in-Ok g c = record { tells = subst (TellsGoing (state g.S.Store c.args.conn.now) (state g.S.Store c.release.new.conn)) (sym c.is_ok.ensures.value) (going_if c.in-Ok.ensures.marks c.release.result c.release.ensures.releases) }

pub returns-in-Err : goal.returns-in-Err
returns-in-Err g c = record { tells = not_going c.in-Err.ensures.marks }
