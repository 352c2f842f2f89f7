-- How boots and heartbeats are answered, and what they change.
use Rattle.std.specs.Prelude.{ℕ, List, Some, None}
use Rattle.ocpp_types.specs.declared.boot_notification.BootNotification.{BootNotification}
use Rattle.ocpp_types.specs.declared.policy.Policy.{Policy}
use Rattle.ocpp_types.specs.declared.policy.Policy.TheVariants as policy
use Rattle.ocpp_types.specs.declared.state.State.{State}
use Rattle.ocpp_types.specs.declared.state.State.TheVariants as state
use Rattle.ocpp_payload.specs.declared.conf.Conf.TheVariants as conf
use Rattle.hub_rows.specs.declared.change.Edit.TheVariants.{Stations}
use Rattle.hub_rows.specs.declared.change.StationEdit.TheVariants.{BootSeen}
use Rattle.hub_rows.specs.declared.station_row.Registration.{Registration}
use Rattle.registry.specs.declared.decision.Decision.{Decision}
use Rattle.registry.specs.declared.decision.Reply.TheVariants.{Conf}

-- the state that a boot leads to
abbrev pub state_after : Policy → State
state_after policy.Accepted = state.Accepted
state_after policy.Pending = state.Pending
state_after policy.Rejected = state.Rejected

-- of a station, by how it is registered
abbrev pub boot_rule : List ℕ → Registration → BootNotification → ℕ → Decision
boot_rule station r texts m = record {
  reply = Conf (conf.BootNotification m r.interval r.policy);
  edit = Some (Stations (BootSeen station (record { texts = texts; moment = m }) (state_after r.policy)));
}

abbrev pub heartbeat_rule : ℕ → Decision
heartbeat_rule m = record { reply = Conf (conf.Heartbeat m); edit = None }
