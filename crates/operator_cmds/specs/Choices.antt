-- What members of commands choose between, by name.
use Rattle.std.specs.Prelude.{ℕ, List, [], ◌∷◌, codes}
use Rattle.ocpp_types.specs.Named.{names_of}
use Rattle.operator_cmds.specs.declared.choices.AvailabilityType.{AvailabilityType}
use Rattle.operator_cmds.specs.declared.choices.AvailabilityType.TheVariants as availability_type
use Rattle.operator_cmds.specs.declared.choices.MessageTrigger.{MessageTrigger}
use Rattle.operator_cmds.specs.declared.choices.MessageTrigger.TheVariants as message_trigger
use Rattle.operator_cmds.specs.declared.choices.ResetType.{ResetType}
use Rattle.operator_cmds.specs.declared.choices.ResetType.TheVariants as reset_type
use Rattle.operator_cmds.specs.declared.choices.UpdateType.{UpdateType}
use Rattle.operator_cmds.specs.declared.choices.UpdateType.TheVariants as update_type

abbrev pub availability_type_name : AvailabilityType → List ℕ
availability_type_name availability_type.Inoperative = codes "Inoperative"
availability_type_name availability_type.Operative = codes "Operative"

abbrev pub availability_types : List (List ℕ × AvailabilityType)
availability_types = names_of availability_type_name (availability_type.Inoperative ∷ availability_type.Operative ∷ [])

abbrev pub message_trigger_name : MessageTrigger → List ℕ
message_trigger_name message_trigger.BootNotification = codes "BootNotification"
message_trigger_name message_trigger.DiagnosticsStatusNotification = codes "DiagnosticsStatusNotification"
message_trigger_name message_trigger.FirmwareStatusNotification = codes "FirmwareStatusNotification"
message_trigger_name message_trigger.Heartbeat = codes "Heartbeat"
message_trigger_name message_trigger.MeterValues = codes "MeterValues"
message_trigger_name message_trigger.StatusNotification = codes "StatusNotification"

abbrev pub message_triggers : List (List ℕ × MessageTrigger)
message_triggers = names_of message_trigger_name (message_trigger.BootNotification ∷ message_trigger.DiagnosticsStatusNotification ∷ message_trigger.FirmwareStatusNotification ∷ message_trigger.Heartbeat ∷ message_trigger.MeterValues ∷ message_trigger.StatusNotification ∷ [])

abbrev pub reset_type_name : ResetType → List ℕ
reset_type_name reset_type.Hard = codes "Hard"
reset_type_name reset_type.Soft = codes "Soft"

abbrev pub reset_types : List (List ℕ × ResetType)
reset_types = names_of reset_type_name (reset_type.Hard ∷ reset_type.Soft ∷ [])

abbrev pub update_type_name : UpdateType → List ℕ
update_type_name update_type.Differential = codes "Differential"
update_type_name update_type.Full = codes "Full"

abbrev pub update_types : List (List ℕ × UpdateType)
update_types = names_of update_type_name (update_type.Differential ∷ update_type.Full ∷ [])
