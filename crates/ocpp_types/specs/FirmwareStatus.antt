-- States of a firmware update, by name.
use Rattle.std.specs.Prelude.{ℕ, List, [], ◌∷◌, codes}
use Rattle.ocpp_types.specs.declared.firmware_status.FirmwareStatus.{FirmwareStatus}
use Rattle.ocpp_types.specs.declared.firmware_status.FirmwareStatus.TheVariants.{Downloaded, DownloadFailed, Downloading, Idle, InstallationFailed, Installing, Installed}
use Rattle.ocpp_types.specs.Named.{names_of}

abbrev pub firmware_status_name : FirmwareStatus → List ℕ
firmware_status_name Downloaded = codes "Downloaded"
firmware_status_name DownloadFailed = codes "DownloadFailed"
firmware_status_name Downloading = codes "Downloading"
firmware_status_name Idle = codes "Idle"
firmware_status_name InstallationFailed = codes "InstallationFailed"
firmware_status_name Installing = codes "Installing"
firmware_status_name Installed = codes "Installed"

abbrev pub firmware_statuses : List (List ℕ × FirmwareStatus)
firmware_statuses = names_of firmware_status_name (Downloaded ∷ DownloadFailed ∷ Downloading ∷ Idle ∷ InstallationFailed ∷ Installing ∷ Installed ∷ [])
