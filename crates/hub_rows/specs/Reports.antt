-- What stations report of uploads and updates.
use Rattle.std.specs.Prelude.{ℕ, List, codes}
use Rattle.ocpp_types.specs.DiagnosticsStatus.{diagnostics_status_name}
use Rattle.ocpp_types.specs.FirmwareStatus.{firmware_status_name}
use Rattle.hub_rows.specs.declared.report_row.ReportedStatus.{ReportedStatus}
use Rattle.hub_rows.specs.declared.report_row.ReportedStatus.TheVariants.{Diagnostics, Firmware}

-- the name of a report's kind
abbrev pub kind_of : ReportedStatus → List ℕ
kind_of (Diagnostics status) = codes "Diagnostics"
kind_of (Firmware status) = codes "Firmware"

-- the name of its status
abbrev pub reported_name : ReportedStatus → List ℕ
reported_name (Diagnostics status) = diagnostics_status_name status
reported_name (Firmware status) = firmware_status_name status
