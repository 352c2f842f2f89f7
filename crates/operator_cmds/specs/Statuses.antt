-- The statuses of answers, by name.
use Rattle.std.specs.Prelude.{ℕ, List, [], ◌∷◌, codes}
use Rattle.ocpp_types.specs.Named.{names_of}
use Rattle.operator_cmds.specs.declared.statuses.AcceptanceStatus.{AcceptanceStatus}
use Rattle.operator_cmds.specs.declared.statuses.AcceptanceStatus.TheVariants as acceptance_status
use Rattle.operator_cmds.specs.declared.statuses.AvailabilityStatus.{AvailabilityStatus}
use Rattle.operator_cmds.specs.declared.statuses.AvailabilityStatus.TheVariants as availability_status
use Rattle.operator_cmds.specs.declared.statuses.ConfigurationStatus.{ConfigurationStatus}
use Rattle.operator_cmds.specs.declared.statuses.ConfigurationStatus.TheVariants as configuration_status
use Rattle.operator_cmds.specs.declared.statuses.ReservationStatus.{ReservationStatus}
use Rattle.operator_cmds.specs.declared.statuses.ReservationStatus.TheVariants as reservation_status
use Rattle.operator_cmds.specs.declared.statuses.TriggerMessageStatus.{TriggerMessageStatus}
use Rattle.operator_cmds.specs.declared.statuses.TriggerMessageStatus.TheVariants as trigger_message_status
use Rattle.operator_cmds.specs.declared.statuses.UnlockStatus.{UnlockStatus}
use Rattle.operator_cmds.specs.declared.statuses.UnlockStatus.TheVariants as unlock_status
use Rattle.operator_cmds.specs.declared.statuses.UpdateStatus.{UpdateStatus}
use Rattle.operator_cmds.specs.declared.statuses.UpdateStatus.TheVariants as update_status

abbrev pub acceptance_status_name : AcceptanceStatus → List ℕ
acceptance_status_name acceptance_status.Accepted = codes "Accepted"
acceptance_status_name acceptance_status.Rejected = codes "Rejected"

abbrev pub acceptance_statuses : List (List ℕ × AcceptanceStatus)
acceptance_statuses = names_of acceptance_status_name (acceptance_status.Accepted ∷ acceptance_status.Rejected ∷ [])

abbrev pub availability_status_name : AvailabilityStatus → List ℕ
availability_status_name availability_status.Accepted = codes "Accepted"
availability_status_name availability_status.Rejected = codes "Rejected"
availability_status_name availability_status.Scheduled = codes "Scheduled"

abbrev pub availability_statuses : List (List ℕ × AvailabilityStatus)
availability_statuses = names_of availability_status_name (availability_status.Accepted ∷ availability_status.Rejected ∷ availability_status.Scheduled ∷ [])

abbrev pub configuration_status_name : ConfigurationStatus → List ℕ
configuration_status_name configuration_status.Accepted = codes "Accepted"
configuration_status_name configuration_status.Rejected = codes "Rejected"
configuration_status_name configuration_status.RebootRequired = codes "RebootRequired"
configuration_status_name configuration_status.NotSupported = codes "NotSupported"

abbrev pub configuration_statuses : List (List ℕ × ConfigurationStatus)
configuration_statuses = names_of configuration_status_name (configuration_status.Accepted ∷ configuration_status.Rejected ∷ configuration_status.RebootRequired ∷ configuration_status.NotSupported ∷ [])

abbrev pub reservation_status_name : ReservationStatus → List ℕ
reservation_status_name reservation_status.Accepted = codes "Accepted"
reservation_status_name reservation_status.Faulted = codes "Faulted"
reservation_status_name reservation_status.Occupied = codes "Occupied"
reservation_status_name reservation_status.Rejected = codes "Rejected"
reservation_status_name reservation_status.Unavailable = codes "Unavailable"

abbrev pub reservation_statuses : List (List ℕ × ReservationStatus)
reservation_statuses = names_of reservation_status_name (reservation_status.Accepted ∷ reservation_status.Faulted ∷ reservation_status.Occupied ∷ reservation_status.Rejected ∷ reservation_status.Unavailable ∷ [])

abbrev pub trigger_message_status_name : TriggerMessageStatus → List ℕ
trigger_message_status_name trigger_message_status.Accepted = codes "Accepted"
trigger_message_status_name trigger_message_status.Rejected = codes "Rejected"
trigger_message_status_name trigger_message_status.NotImplemented = codes "NotImplemented"

abbrev pub trigger_message_statuses : List (List ℕ × TriggerMessageStatus)
trigger_message_statuses = names_of trigger_message_status_name (trigger_message_status.Accepted ∷ trigger_message_status.Rejected ∷ trigger_message_status.NotImplemented ∷ [])

abbrev pub unlock_status_name : UnlockStatus → List ℕ
unlock_status_name unlock_status.Unlocked = codes "Unlocked"
unlock_status_name unlock_status.UnlockFailed = codes "UnlockFailed"
unlock_status_name unlock_status.NotSupported = codes "NotSupported"

abbrev pub unlock_statuses : List (List ℕ × UnlockStatus)
unlock_statuses = names_of unlock_status_name (unlock_status.Unlocked ∷ unlock_status.UnlockFailed ∷ unlock_status.NotSupported ∷ [])

abbrev pub update_status_name : UpdateStatus → List ℕ
update_status_name update_status.Accepted = codes "Accepted"
update_status_name update_status.Failed = codes "Failed"
update_status_name update_status.NotSupported = codes "NotSupported"
update_status_name update_status.VersionMismatch = codes "VersionMismatch"

abbrev pub update_statuses : List (List ℕ × UpdateStatus)
update_statuses = names_of update_status_name (update_status.Accepted ∷ update_status.Failed ∷ update_status.NotSupported ∷ update_status.VersionMismatch ∷ [])
