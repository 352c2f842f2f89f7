use Rattle.std.proofs.Common.{All}
use Rattle.hub_rows.specs.Changes.{edit}
use Rattle.hub_rows.specs.Rows.{Rows}
use Rattle.cached.proofs.memo.Memo.first_touched.Given as goal

abbrev pub invariant-loop-digest : goal.invariant-loop-digest
invariant-loop-digest g l = All (λ e. (rows : Rows) → g.A.Answer.is_right rows e.1.now → g.A.Answer.is_right (edit l.change.op.now l.change.edit.now rows) e.1.now) l.yielded
