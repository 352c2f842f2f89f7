-- The decision on each call of a station, by the rule of its action.
use Rattle.std.specs.Prelude.{ℕ, List}
use Rattle.ocpp_payload.specs.declared.request.Request.{Request}
use Rattle.ocpp_payload.specs.declared.request.Request.TheVariants as request_of
use Rattle.hub_rows.specs.declared.report_row.ReportedStatus.TheVariants as reported
use Rattle.hub_rows.specs.declared.station_row.Registration.{Registration}
use Rattle.hub_rows.specs.Lookups.{Lookups}
use Rattle.registry.specs.declared.decision.Decision.{Decision}
use Rattle.registry.specs.Boot.{boot_rule, heartbeat_rule}
use Rattle.registry.specs.Status.{status_rule}
use Rattle.registry.specs.Report.{report_rule}
use Rattle.charging.specs.MeterValues.{meter_values_rule}
use Rattle.charging.specs.Start.{start_rule}
use Rattle.charging.specs.Stop.{stop_rule}
use Rattle.station_calls.specs.Authorized.{authorize_rule}
use Rattle.station_calls.specs.Transfer.{transfer_rule}
use Rattle.station_calls.specs.Vendors.{Answers}

-- of a station, by how it is registered
abbrev pub decision : Answers → List ℕ → Registration → Request → ℕ → Lookups → Decision
decision answers station g (request_of.Authorize r) m l = authorize_rule r m l
decision answers station g (request_of.BootNotification texts) m l = boot_rule station g texts m
decision answers station g (request_of.DataTransfer r) m l = transfer_rule answers r
decision answers station g (request_of.DiagnosticsStatusNotification r) m l = report_rule station (reported.Diagnostics r.status) m
decision answers station g (request_of.FirmwareStatusNotification r) m l = report_rule station (reported.Firmware r.status) m
decision answers station g request_of.Heartbeat m l = heartbeat_rule m
decision answers station g (request_of.MeterValues r) m l = meter_values_rule station r l
decision answers station g (request_of.StartTransaction r) m l = start_rule station r m l
decision answers station g (request_of.StatusNotification r) m l = status_rule station r m
decision answers station g (request_of.StopTransaction r) m l = stop_rule station r m l
