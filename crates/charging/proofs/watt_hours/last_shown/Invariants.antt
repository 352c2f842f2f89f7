use Rattle.std.proofs.Common.{◌≡◌, ◌≤◌, take}
use Rattle.std.specs.Option.{IfSome}
use Rattle.charging.specs.WattHours.{last_shown}
use Rattle.charging.specs.declared.watt_hours.TheConstants.{MAX_WATT_HOURS}
use Rattle.charging.proofs.watt_hours.last_shown.Given as goal

abbrev pub invariant-loop-reading : goal.invariant-loop-reading
invariant-loop-reading l = (l.last ≡ last_shown (take l.reading-index l.sampled)) × IfSome l.last (λ wh. wh ≤ MAX_WATT_HOURS)
