-- How reports of uploads and updates are answered, and what they change.
use Rattle.std.specs.Prelude.{ℕ, List, Some}
use Rattle.ocpp_payload.specs.declared.conf.Conf.TheVariants as conf
use Rattle.hub_rows.specs.declared.change.Edit.TheVariants.{Stations}
use Rattle.hub_rows.specs.declared.change.StationEdit.TheVariants.{ReportSeen}
use Rattle.hub_rows.specs.declared.report_row.ReportedStatus.{ReportedStatus}
use Rattle.registry.specs.declared.decision.Decision.{Decision}
use Rattle.registry.specs.declared.decision.Reply.TheVariants.{Conf}

-- the report is of the moment
abbrev pub report_rule : List ℕ → ReportedStatus → ℕ → Decision
report_rule station status m = record { reply = Conf conf.Empty; edit = Some (Stations (ReportSeen station status m)) }
