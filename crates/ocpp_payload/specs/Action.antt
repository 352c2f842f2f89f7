-- The actions that are answered, by name.
use Rattle.std.specs.Prelude.{ℕ, List, [], ◌∷◌, codes}
use Rattle.ocpp_types.specs.Named.{names_of}
use Rattle.ocpp_payload.specs.declared.action.Action.{Action}
use Rattle.ocpp_payload.specs.declared.action.Action.TheVariants.{Authorize, BootNotification, DataTransfer, DiagnosticsStatusNotification, FirmwareStatusNotification, Heartbeat, MeterValues, StartTransaction, StatusNotification, StopTransaction}

abbrev pub action_name : Action → List ℕ
action_name Authorize = codes "Authorize"
action_name BootNotification = codes "BootNotification"
action_name DataTransfer = codes "DataTransfer"
action_name DiagnosticsStatusNotification = codes "DiagnosticsStatusNotification"
action_name FirmwareStatusNotification = codes "FirmwareStatusNotification"
action_name Heartbeat = codes "Heartbeat"
action_name MeterValues = codes "MeterValues"
action_name StartTransaction = codes "StartTransaction"
action_name StatusNotification = codes "StatusNotification"
action_name StopTransaction = codes "StopTransaction"

abbrev pub actions : List (List ℕ × Action)
actions = names_of action_name (Authorize ∷ BootNotification ∷ DataTransfer ∷ DiagnosticsStatusNotification ∷ FirmwareStatusNotification ∷ Heartbeat ∷ MeterValues ∷ StartTransaction ∷ StatusNotification ∷ StopTransaction ∷ [])
