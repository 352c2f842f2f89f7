use Rattle.std.proofs.Common.{length}
use Rattle.repairs.proofs.Repaired.{ItemsSoFar}
use Rattle.repairs.proofs.tables.repaired_items.Given as goal

abbrev pub invariant-loop-item : goal.invariant-loop-item
invariant-loop-item g l = ItemsSoFar (g.R.ItemRepair.repair_by l.repair l.now) l.fn.items.items l.repaired.items (length l.yielded)
