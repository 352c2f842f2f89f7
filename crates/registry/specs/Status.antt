-- How reports on connectors are answered, and what they change.
use Rattle.std.specs.Prelude.{ℕ, ◌*◌, pos, List, Some, unwrap_or}
use Rattle.ocpp_payload.specs.declared.conf.Conf.TheVariants as conf
use Rattle.ocpp_payload.specs.declared.request.StatusNotification.{StatusNotification}
use Rattle.hub_rows.specs.declared.change.Edit.TheVariants.{Stations}
use Rattle.hub_rows.specs.declared.change.StationEdit.TheVariants.{ConnectorSeen}
use Rattle.hub_rows.specs.declared.connector_row.ConnectorReport.{ConnectorReport}
use Rattle.registry.specs.declared.decision.Decision.{Decision}
use Rattle.registry.specs.declared.decision.Reply.TheVariants.{Conf}

-- the report is of the time that was sent, or else of the moment, in milliseconds
abbrev pub report_of : StatusNotification → ℕ → ConnectorReport
report_of r m = record {
  status = r.status;
  error_code = r.error_code;
  at = unwrap_or r.timestamp (pos (m * 1000));
  info = r.info;
  vendor_id = r.vendor_id;
  vendor_error_code = r.vendor_error_code;
}

abbrev pub status_rule : List ℕ → StatusNotification → ℕ → Decision
status_rule station r m = record {
  reply = Conf conf.Empty;
  edit = Some (Stations (ConnectorSeen station r.connector_id (report_of r m)));
}
