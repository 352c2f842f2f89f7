use Rattle.std.proofs.Common.{◌≡◌, ◌++◌, drop}
use Rattle.std.specs.List.{filter}
use Rattle.hub_rows.specs.Forgetting.{may_go}
use Rattle.store_mem.proofs.forgettable.old_meter_values.Given as goal

abbrev pub invariant-loop-row : goal.invariant-loop-row
invariant-loop-row l = l.gone ++ filter (may_go l.until l.txs) (drop l.row-index l.values) ≡ filter (may_go l.until l.txs) l.values
