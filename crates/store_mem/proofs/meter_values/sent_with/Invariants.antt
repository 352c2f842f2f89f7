use Rattle.std.proofs.Common.{◌≡◌, ◌++◌, drop}
use Rattle.std.specs.List.{filter}
use Rattle.hub_rows.specs.MeterValues.{is_sent_with}
use Rattle.store_mem.proofs.meter_values.sent_with.Given as goal

abbrev pub invariant-loop-row : goal.invariant-loop-row
invariant-loop-row l = l.chosen ++ filter (λ r. is_sent_with l.transaction r.value.transaction) (drop l.row-index l.rows) ≡ filter (λ r. is_sent_with l.transaction r.value.transaction) l.rows
