use Rattle.std.proofs.Common.{◌≡◌, ℕ, pos, Some, ◌||◌, drop}
use Rattle.std.specs.BTreeSet.{contains}
use Rattle.std.specs.List.{list_any}
use Rattle.std.specs.Ordering.{int_cmp}
use Rattle.hub_rows.specs.MeterValues.{is_sent_with}
use Rattle.store_mem.proofs.forgettable.named_txs.Given as goal

abbrev pub invariant-loop-row : goal.invariant-loop-row
invariant-loop-row l =
    (n : ℕ) → contains int_cmp l.named (pos n) || list_any (λ r. is_sent_with (Some n) r.value.transaction) (drop l.row-index l.values)
    ≡ list_any (λ r. is_sent_with (Some n) r.value.transaction) l.values
