use Rattle.std.proofs.Common.{◌≡◌, true, ◌++◌, drop}
use Rattle.hub_rows.specs.Keyed.{those}
use Rattle.store_mem.proofs.copies.own_copies.Given as goal

abbrev pub invariant-loop-row : goal.invariant-loop-row
invariant-loop-row g l = l.list ++ those g.R.NamedRow.op l.op (λ r. true) (drop l.row-index l.rows) ≡ those g.R.NamedRow.op l.op (λ r. true) l.rows
