use Rattle.std.proofs.Common.{◌≡◌, ◌++◌, drop}
use Rattle.std.specs.List.{filter}
use Rattle.hub_rows.specs.Forgetting.{tx_goes}
use Rattle.store_mem.proofs.forgettable.old_txs.Given as goal

abbrev pub invariant-loop-tx : goal.invariant-loop-tx
invariant-loop-tx l = l.gone ++ filter (tx_goes l.until l.values) (drop l.tx-index l.txs) ≡ filter (tx_goes l.until l.values) l.txs
