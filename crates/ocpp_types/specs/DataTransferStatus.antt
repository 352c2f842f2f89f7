-- How vendor messages are answered, by name.
use Rattle.std.specs.Prelude.{ℕ, List, [], ◌∷◌, codes}
use Rattle.ocpp_types.specs.declared.data_transfer_status.DataTransferStatus.{DataTransferStatus}
use Rattle.ocpp_types.specs.declared.data_transfer_status.DataTransferStatus.TheVariants.{Accepted, Rejected, UnknownMessageId, UnknownVendorId}
use Rattle.ocpp_types.specs.Named.{names_of}

abbrev pub data_transfer_status_name : DataTransferStatus → List ℕ
data_transfer_status_name Accepted = codes "Accepted"
data_transfer_status_name Rejected = codes "Rejected"
data_transfer_status_name UnknownMessageId = codes "UnknownMessageId"
data_transfer_status_name UnknownVendorId = codes "UnknownVendorId"

abbrev pub data_transfer_statuses : List (List ℕ × DataTransferStatus)
data_transfer_statuses = names_of data_transfer_status_name (Accepted ∷ Rejected ∷ UnknownMessageId ∷ UnknownVendorId ∷ [])
