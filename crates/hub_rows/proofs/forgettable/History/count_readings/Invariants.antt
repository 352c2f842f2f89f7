use Rattle.std.proofs.Common.{◌≡◌, ◌+◌, ◌*◌, ◌≤◌, drop}
use Rattle.hub_rows.specs.Forgetting.{count_readings}
use Rattle.hub_rows.proofs.forgettable.History.count_readings.Given as goal

abbrev pub invariant-loop-row : goal.invariant-loop-row
invariant-loop-row l = record {
  count : l.count + count_readings (drop l.row-index l.row-items) ≡ count_readings l.row-items;
  bound : l.count ≤ l.row-index * 18446744073709551616;
  items : l.row-items ≡ l.self.meter_values;
}
