-- What the name of an action stands for.
use Rattle.std.specs.Prelude.{ℕ, List, [], ◌∷◌, codes, Bool, Option, Some, None, if◌then◌else◌, nat_eq}
use Rattle.std.specs.List.{list_any}
use Rattle.std.specs.Cmp.Lexicographic.{pointwise}
use Rattle.ocpp_types.specs.Named.{named}
use Rattle.ocpp_payload.specs.Action.{actions}
use Rattle.ocpp_payload.specs.declared.action.Action.{Action}
use Rattle.ocpp_payload.specs.declared.class_of_action.ActionClass.{ActionClass}
use Rattle.ocpp_payload.specs.declared.class_of_action.ActionClass.TheVariants.{Known, NotSupported, NotImplemented}

-- the actions of OCPP 1.6: first those of a station, then those of a central system alone
abbrev pub of_the_standard : List (List ℕ)
of_the_standard =
    codes "Authorize" ∷ codes "BootNotification" ∷ codes "DataTransfer" ∷ codes "DiagnosticsStatusNotification"
    ∷ codes "FirmwareStatusNotification" ∷ codes "Heartbeat" ∷ codes "MeterValues" ∷ codes "StartTransaction"
    ∷ codes "StatusNotification" ∷ codes "StopTransaction"
    ∷ codes "CancelReservation" ∷ codes "ChangeAvailability" ∷ codes "ChangeConfiguration" ∷ codes "ClearCache"
    ∷ codes "ClearChargingProfile" ∷ codes "GetCompositeSchedule" ∷ codes "GetConfiguration" ∷ codes "GetDiagnostics"
    ∷ codes "GetLocalListVersion" ∷ codes "RemoteStartTransaction" ∷ codes "RemoteStopTransaction" ∷ codes "ReserveNow"
    ∷ codes "Reset" ∷ codes "SendLocalList" ∷ codes "SetChargingProfile" ∷ codes "TriggerMessage"
    ∷ codes "UnlockConnector" ∷ codes "UpdateFirmware" ∷ []

abbrev pub is_of_the_standard : List ℕ → Bool
is_of_the_standard name = list_any (pointwise nat_eq name) of_the_standard

abbrev pub class_of : List ℕ → Option Action → ActionClass
class_of name (Some action) = Known action
class_of name None = if is_of_the_standard name then NotSupported else NotImplemented

abbrev pub action_class : List ℕ → ActionClass
action_class name = class_of name (named actions name)
