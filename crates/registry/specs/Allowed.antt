-- What a station may send in its state.
use Rattle.std.specs.Prelude.{Bool, true, false}
use Rattle.ocpp_types.specs.declared.state.State.{State}
use Rattle.ocpp_types.specs.declared.state.State.TheVariants.{Fresh, Accepted, Pending, Rejected}
use Rattle.ocpp_payload.specs.declared.action.Action.{Action}
use Rattle.ocpp_payload.specs.declared.action.Action.TheVariants.{Authorize, BootNotification, StartTransaction}

-- a station that isn't registered may boot
abbrev pub is_boot : Action → Bool
is_boot BootNotification = true
is_boot action = false

-- one that waits for its registration may send all but Authorize and StartTransaction
abbrev pub begins_nothing : Action → Bool
begins_nothing Authorize = false
begins_nothing StartTransaction = false
begins_nothing action = true

abbrev pub is_allowed : State → Action → Bool
is_allowed Fresh action = is_boot action
is_allowed Rejected action = is_boot action
is_allowed Pending action = begins_nothing action
is_allowed Accepted action = true
