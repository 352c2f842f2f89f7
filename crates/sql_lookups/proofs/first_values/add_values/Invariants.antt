use Rattle.std.proofs.Common.{◌≡◌, ◌++◌, ◌-◌}
use Rattle.hub_rows.specs.Forgetting.{count_readings}
use Rattle.sql_lookups.proofs.first_values.add_values.Given as goal

abbrev pub invariant-loop-row : goal.invariant-loop-row
invariant-loop-row l = record {
  added : l.values.items ≡ l.fn.values.items ++ l.yielded;
  left : l.left ≡ l.fn.left - count_readings l.yielded;
}
