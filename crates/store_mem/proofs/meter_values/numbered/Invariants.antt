use Rattle.std.proofs.Common.{◌≡◌, ◌+◌, ◌++◌, drop}
use Rattle.hub_rows.specs.MeterValues.{all_taken, meter_value_rows}
use Rattle.store_mem.proofs.meter_values.numbered.Given as goal

abbrev pub invariant-loop-value : goal.invariant-loop-value
invariant-loop-value l = record {
  number : l.number + all_taken (drop l.value-index l.values) ≡ l.first + all_taken l.values;
  rows : l.rows.items ++ meter_value_rows l.op l.station l.number (drop l.value-index l.values) ≡ meter_value_rows l.op l.station l.first l.values;
}
