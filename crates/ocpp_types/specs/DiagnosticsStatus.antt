-- States of an upload of diagnostics, by name.
use Rattle.std.specs.Prelude.{ℕ, List, [], ◌∷◌, codes}
use Rattle.ocpp_types.specs.declared.diagnostics_status.DiagnosticsStatus.{DiagnosticsStatus}
use Rattle.ocpp_types.specs.declared.diagnostics_status.DiagnosticsStatus.TheVariants.{Idle, Uploaded, UploadFailed, Uploading}
use Rattle.ocpp_types.specs.Named.{names_of}

abbrev pub diagnostics_status_name : DiagnosticsStatus → List ℕ
diagnostics_status_name Idle = codes "Idle"
diagnostics_status_name Uploaded = codes "Uploaded"
diagnostics_status_name UploadFailed = codes "UploadFailed"
diagnostics_status_name Uploading = codes "Uploading"

abbrev pub diagnostics_statuses : List (List ℕ × DiagnosticsStatus)
diagnostics_statuses = names_of diagnostics_status_name (Idle ∷ Uploaded ∷ UploadFailed ∷ Uploading ∷ [])
