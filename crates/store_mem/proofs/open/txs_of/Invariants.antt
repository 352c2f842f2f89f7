use Rattle.std.proofs.Common.{◌≡◌, ◌++◌, drop}
use Rattle.store_mem.specs.NamedGroups.{all_rows}
use Rattle.store_mem.specs.Open.{txs_of}
use Rattle.store_mem.proofs.open.txs_of.Given as goal

abbrev pub invariant-loop-row : goal.invariant-loop-row
invariant-loop-row l = l.list ++ txs_of l.op (all_rows l.groups) (drop l.row-index l.opens) ≡ txs_of l.op (all_rows l.groups) l.opens
