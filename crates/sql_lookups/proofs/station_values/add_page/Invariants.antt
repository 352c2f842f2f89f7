use Rattle.std.proofs.Common.{◌≡◌, ◌++◌}
use Rattle.sql_lookups.proofs.station_values.add_page.Given as goal

abbrev pub invariant-loop-row : goal.invariant-loop-row
invariant-loop-row l = l.values.items ≡ l.fn.values.items ++ l.yielded
