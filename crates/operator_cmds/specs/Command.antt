-- The commands of an operator: read from JSON, checked, written as requests.
use Rattle.std.specs.Prelude.{ℕ, List, Option, None, is_some, if◌then◌else◌, Result, Ok, option_and_then}
use Rattle.std.specs.Result.{result_ok}
use Rattle.serde_json.specs.Data.{Data}
use Rattle.serde_json.specs.Find.{as_object}
use Rattle.ocpp_types.specs.Named.{named}
use Rattle.ocpp_payload.specs.declared.fault.FieldFault.{FieldFault}
use Rattle.ocpp_payload.specs.Kind.{◌>>=◌}
use Rattle.ocpp_payload.specs.Table.{Form, read_by, bad_member, written}
use Rattle.operator_cmds.specs.OperatorAction.{operator_action_name, operator_actions}
use Rattle.operator_cmds.specs.Forms as form
use Rattle.operator_cmds.specs.LocalList as local
use Rattle.operator_cmds.specs.declared.command.Command.{Command}
use Rattle.operator_cmds.specs.declared.command.Command.TheVariants as variant
use Rattle.operator_cmds.specs.declared.operator_action.OperatorAction.{OperatorAction}
use Rattle.operator_cmds.specs.declared.operator_action.OperatorAction.TheVariants as action

-- ---- from JSON

-- a command of one action, by its form
abbrev pub read_as : {C : Type 0} → Form C → (C → Command) → Data → Result Command FieldFault
read_as form variant d = read_by form d >>= (λ c. Ok (variant c))

-- the command of an action that an object is, or its first fault
abbrev pub command_of : OperatorAction → Data → Result Command FieldFault
command_of action.CancelReservation = read_as form.cancel_reservation variant.CancelReservation
command_of action.ChangeAvailability = read_as form.change_availability variant.ChangeAvailability
command_of action.ChangeConfiguration = read_as form.change_configuration variant.ChangeConfiguration
command_of action.ClearCache = read_as form.empty (λ _. variant.ClearCache)
command_of action.DataTransfer = read_as form.data_transfer variant.DataTransfer
command_of action.GetConfiguration = read_as form.get_configuration variant.GetConfiguration
command_of action.GetLocalListVersion = read_as form.empty (λ _. variant.GetLocalListVersion)
command_of action.RemoteStartTransaction = read_as form.remote_start_transaction variant.RemoteStartTransaction
command_of action.RemoteStopTransaction = read_as form.remote_stop_transaction variant.RemoteStopTransaction
command_of action.ReserveNow = read_as form.reserve_now variant.ReserveNow
command_of action.Reset = read_as form.reset variant.Reset
command_of action.SendLocalList = read_as local.send_local_list variant.SendLocalList
command_of action.TriggerMessage = read_as form.trigger_message variant.TriggerMessage
command_of action.UnlockConnector = read_as form.unlock_connector variant.UnlockConnector

-- a payload has to be an object
abbrev pub command : List ℕ → Data → Option Command
command name d = option_and_then (λ action. if is_some (as_object d) then result_ok (command_of action d) else None) (named operator_actions name)

-- ---- its form

-- a record, with the form that it has
pub data Message : Type 1 where
  by : {C : Type 0} → Form C → C → Message

-- the members of a command, with their form
abbrev pub message : Command → Message
message (variant.CancelReservation c) = by form.cancel_reservation c
message (variant.ChangeAvailability c) = by form.change_availability c
message (variant.ChangeConfiguration c) = by form.change_configuration c
message variant.ClearCache = by form.empty tt
message (variant.DataTransfer c) = by form.data_transfer c
message (variant.GetConfiguration c) = by form.get_configuration c
message variant.GetLocalListVersion = by form.empty tt
message (variant.RemoteStartTransaction c) = by form.remote_start_transaction c
message (variant.RemoteStopTransaction c) = by form.remote_stop_transaction c
message (variant.ReserveNow c) = by form.reserve_now c
message (variant.Reset c) = by form.reset c
message (variant.SendLocalList c) = by local.send_local_list c
message (variant.TriggerMessage c) = by form.trigger_message c
message (variant.UnlockConnector c) = by form.unlock_connector c

-- its first bad member
abbrev pub bad_in : Message → Option (List ℕ)
bad_in (by form c) = bad_member form c

-- the object that it is written as
abbrev pub data_of : Message → Data
data_of (by form c) = written form c

-- the first bad member of a command
abbrev pub bad_field : Command → Option (List ℕ)
bad_field c = bad_in (message c)

-- the payload of the request
abbrev pub command_data : Command → Data
command_data c = data_of (message c)

-- ---- its action

-- the action of a command
abbrev pub action_of : Command → OperatorAction
action_of (variant.CancelReservation c) = action.CancelReservation
action_of (variant.ChangeAvailability c) = action.ChangeAvailability
action_of (variant.ChangeConfiguration c) = action.ChangeConfiguration
action_of variant.ClearCache = action.ClearCache
action_of (variant.DataTransfer c) = action.DataTransfer
action_of (variant.GetConfiguration c) = action.GetConfiguration
action_of variant.GetLocalListVersion = action.GetLocalListVersion
action_of (variant.RemoteStartTransaction c) = action.RemoteStartTransaction
action_of (variant.RemoteStopTransaction c) = action.RemoteStopTransaction
action_of (variant.ReserveNow c) = action.ReserveNow
action_of (variant.Reset c) = action.Reset
action_of (variant.SendLocalList c) = action.SendLocalList
action_of (variant.TriggerMessage c) = action.TriggerMessage
action_of (variant.UnlockConnector c) = action.UnlockConnector

-- the name of the action, under which it is sent
abbrev pub action_name_of : Command → List ℕ
action_name_of c = operator_action_name (action_of c)
