-- How a MeterValues is answered, and what it changes.
use Rattle.std.specs.Prelude.{ℕ, ◌+◌, ℤ, List, map, if◌then◌else◌, Option, Some}
use Rattle.ocpp_payload.specs.declared.conf.Conf.TheVariants as conf
use Rattle.ocpp_payload.specs.declared.readings.MeterValue.{MeterValue as Sent}
use Rattle.ocpp_payload.specs.declared.request.MeterValues.{MeterValues}
use Rattle.hub_rows.specs.declared.change.Edit.TheVariants.{Transactions}
use Rattle.hub_rows.specs.declared.change.TransactionEdit.TheVariants.{MeterValuesAdded}
use Rattle.hub_rows.specs.declared.meter_value_row.MeterValue.{MeterValue}
use Rattle.hub_rows.specs.Lookups.{Lookups}
use Rattle.hub_rows.specs.MeterValues.{all_taken}
use Rattle.registry.specs.declared.decision.Decision.{Decision}
use Rattle.registry.specs.declared.decision.Reply.TheVariants.{Conf}
use Rattle.registry.specs.InternalError.{internal_error}
use Rattle.charging.specs.Numbers.{has_room}

-- a meter value of a connector as it is kept, sent with or without the number of a transaction
abbrev pub kept_value : ℕ → Option ℤ → Sent → MeterValue
kept_value connector transaction v = record { connector = connector; transaction = transaction; at = v.timestamp; sampled = v.sampled_value }

-- those of a message
abbrev pub kept_values : ℕ → Option ℤ → List Sent → List MeterValue
kept_values connector transaction values = map (kept_value connector transaction) values

-- meter values of a station, after the last number that was given
abbrev pub decision_of_values : List ℕ → ℕ → List MeterValue → Decision
decision_of_values station last values =
    if has_room last (all_taken values) then record { reply = Conf conf.Empty; edit = Some (Transactions (MeterValuesAdded station (last + 1) values)) } else internal_error

abbrev pub meter_values_rule : List ℕ → MeterValues → Lookups → Decision
meter_values_rule station r l = decision_of_values station (l.last_reading station) (kept_values r.connector_id r.transaction_id r.meter_value)
