use Rattle.std.proofs.Common.{◌≡◌, drop}
use Rattle.hub_rows.specs.Operators.{are_distinct_names}
use Rattle.hub_rows.proofs.operators.are_distinct_names.Given as goal

abbrev pub invariant-loop-place : goal.invariant-loop-place
invariant-loop-place l = are_distinct_names (drop l.place l.names) ≡ are_distinct_names l.names
