use Rattle.std.proofs.Common.{◌≡◌, drop}
use Rattle.std.specs.Prelude.{nat_le}
use Rattle.hub_rows.specs.MeterValues.{all_taken}
use Rattle.charging.specs.Numbers.{has_room}
use Rattle.charging.proofs.numbers.has_room.Given as goal

-- what is left is enough for the rest where it was enough for all
abbrev pub invariant-loop-value : goal.invariant-loop-value
invariant-loop-value l = nat_le (all_taken (drop l.value-index l.values)) l.left ≡ has_room l.last (all_taken l.values)
