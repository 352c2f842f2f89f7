use Rattle.std.proofs.Common.{◌≡◌, ◌≤◌, take}
use Rattle.std.specs.Option.{IfSome}
use Rattle.charging.specs.WattHours.{last_watt_hours}
use Rattle.charging.specs.declared.watt_hours.TheConstants.{MAX_WATT_HOURS}
use Rattle.charging.proofs.watt_hours.last_watt_hours.Given as goal

abbrev pub invariant-loop-row : goal.invariant-loop-row
invariant-loop-row l = (l.last ≡ last_watt_hours (take l.row-index l.rows)) × IfSome l.last (λ wh. wh ≤ MAX_WATT_HOURS)
