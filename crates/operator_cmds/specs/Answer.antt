-- The answers of stations to commands.
use Rattle.std.specs.Prelude.{ℕ, List, codes, Bool, false, Option, Some, None, Result, Ok, nat_eq, option_and_then}
use Rattle.std.specs.Cmp.Lexicographic.{pointwise}
use Rattle.serde_json.specs.Data.{Data}
use Rattle.serde_json.specs.Find.{as_str, get}
use Rattle.ocpp_payload.specs.declared.fault.FieldFault.{FieldFault}
use Rattle.ocpp_payload.specs.Kind.{◌>>=◌}
use Rattle.ocpp_payload.specs.Table.{Form, read_by, written}
use Rattle.operator_cmds.specs.AnswerForms.{status_of, data_transfer_answer, get_configuration_answer, get_local_list_version_answer}
use Rattle.operator_cmds.specs.Statuses.{acceptance_status_name, acceptance_statuses, availability_status_name, availability_statuses, configuration_status_name, configuration_statuses, reservation_status_name, reservation_statuses, trigger_message_status_name, trigger_message_statuses, unlock_status_name, unlock_statuses, update_status_name, update_statuses}
use Rattle.operator_cmds.specs.declared.command.Command.{Command}
use Rattle.operator_cmds.specs.declared.command.Command.TheVariants.{CancelReservation, ChangeAvailability, ChangeConfiguration, ClearCache, DataTransfer, GetConfiguration, GetLocalListVersion, RemoteStartTransaction, RemoteStopTransaction, ReserveNow, Reset, SendLocalList, TriggerMessage, UnlockConnector}

-- the form of an answer, for a record of any type
pub data Reply : Type 1 where
  by : {A : Type 0} → Form A → Reply

-- the form of the answer to a command
abbrev pub reply : Command → Reply
reply (CancelReservation c) = by (status_of acceptance_statuses acceptance_status_name)
reply (ChangeAvailability c) = by (status_of availability_statuses availability_status_name)
reply (ChangeConfiguration c) = by (status_of configuration_statuses configuration_status_name)
reply ClearCache = by (status_of acceptance_statuses acceptance_status_name)
reply (DataTransfer c) = by data_transfer_answer
reply (GetConfiguration c) = by get_configuration_answer
reply GetLocalListVersion = by get_local_list_version_answer
reply (RemoteStartTransaction c) = by (status_of acceptance_statuses acceptance_status_name)
reply (RemoteStopTransaction c) = by (status_of acceptance_statuses acceptance_status_name)
reply (ReserveNow c) = by (status_of reservation_statuses reservation_status_name)
reply (Reset c) = by (status_of acceptance_statuses acceptance_status_name)
reply (SendLocalList c) = by (status_of update_statuses update_status_name)
reply (TriggerMessage c) = by (status_of trigger_message_statuses trigger_message_status_name)
reply (UnlockConnector c) = by (status_of unlock_statuses unlock_status_name)

-- what is written of the members that are read
abbrev pub as_sent : {A : Type 0} → (Data → Result A FieldFault) → Form A → Data → Result Data FieldFault
as_sent read form d = read d >>= (λ a. Ok (written form a))

-- the same by a form for a record of any type
abbrev pub by_reply : Reply → Data → Result Data FieldFault
by_reply (by form) d = as_sent (read_by form) form d

-- the known members of the answer to a command, or its first fault
abbrev pub known_members : Command → Data → Result Data FieldFault
known_members c d = by_reply (reply c) d

-- ---- accepted

abbrev says_accepted : Option (List ℕ) → Bool
says_accepted (Some status) = pointwise nat_eq status (codes "Accepted")
says_accepted None = false

-- the member `status` of an answer is `Accepted`
abbrev pub is_accepted : Data → Bool
is_accepted d = says_accepted (option_and_then as_str (get (codes "status") d))
