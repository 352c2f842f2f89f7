-- How a StopTransaction is answered, and what it changes.
use Rattle.std.specs.Prelude.{ℕ, ℤ, pos, negsuc, ◌+◌, List, [], if◌then◌else◌, Option, Some, None}
use Rattle.ocpp_types.specs.TagKey.{key_of}
use Rattle.ocpp_types.specs.declared.id_tag_info.IdTagInfo.{IdTagInfo}
use Rattle.ocpp_payload.specs.declared.conf.Conf.TheVariants as conf
use Rattle.ocpp_payload.specs.declared.request.StopTransaction.{StopTransaction}
use Rattle.hub_rows.specs.declared.change.Edit.{Edit}
use Rattle.hub_rows.specs.declared.change.Edit.TheVariants.{Transactions}
use Rattle.hub_rows.specs.declared.change.TransactionEdit.TheVariants.{TxStopped}
use Rattle.hub_rows.specs.declared.meter_value_row.MeterValue.{MeterValue}
use Rattle.hub_rows.specs.declared.tx_row.Stop.{Stop}
use Rattle.hub_rows.specs.declared.tx_row.TxState.{TxState}
use Rattle.hub_rows.specs.Lookups.{Lookups}
use Rattle.hub_rows.specs.MeterValues.{all_taken}
use Rattle.id_tags.specs.Judge.{judge_rule}
use Rattle.id_tags.specs.declared.judgement.Purpose.TheVariants as purpose
use Rattle.registry.specs.declared.decision.Decision.{Decision}
use Rattle.registry.specs.declared.decision.Reply.TheVariants.{Conf}
use Rattle.charging.specs.MeterValues.{kept_values}
use Rattle.charging.specs.Numbers.{has_room}

-- the judgement of the tag that was sent with the stop
abbrev pub info_of : Option (List ℕ) → ℕ → Lookups → Option IdTagInfo
info_of None m l = None
info_of (Some tag) m l = Some (judge_rule m (key_of tag) purpose.Authorize l)

-- the number that a transaction's id names
abbrev pub number_of_id : ℤ → Option ℕ
number_of_id (pos n) = Some n
number_of_id (negsuc n) = None

-- the stop as it is kept
abbrev pub stop_of : StopTransaction → ℕ → Stop
stop_of r m = record { meter_stop = r.meter_stop; at = r.timestamp; reason = r.reason; tag = r.id_tag; moment = m }

-- a stop of transaction n with meter values after the last number that was given; they are left out where no numbers
-- are left for all of their readings
abbrev pub stop_edit : List ℕ → ℕ → Stop → ℕ → List MeterValue → Edit
stop_edit station n stop last values = if has_room last (all_taken values) then Transactions (TxStopped station n stop (last + 1) values) else Transactions (TxStopped station n stop 0 [])

-- meter values that are sent with a stop are of the transaction's connector
abbrev pub end_edit : List ℕ → StopTransaction → ℕ → ℕ → ℕ → ℕ → Edit
end_edit station r m n connector last = stop_edit station n (stop_of r m) last (kept_values connector (Some r.transaction_id) r.transaction_data)

-- by the state of transaction n
abbrev pub edit_by_state : List ℕ → StopTransaction → ℕ → Lookups → ℕ → Option TxState → Option Edit
edit_by_state station r m l n None = None
edit_by_state station r m l n (Some t) = if t.is_open then Some (end_edit station r m n t.connector (l.last_reading station)) else None

-- by the number that its id names
abbrev pub edit_by_number : List ℕ → StopTransaction → ℕ → Lookups → Option ℕ → Option Edit
edit_by_number station r m l None = None
edit_by_number station r m l (Some n) = edit_by_state station r m l n (l.tx station n)

abbrev pub edit_of_stop : List ℕ → StopTransaction → ℕ → Lookups → Option Edit
edit_of_stop station r m l = edit_by_number station r m l (number_of_id r.transaction_id)

abbrev pub stop_rule : List ℕ → StopTransaction → ℕ → Lookups → Decision
stop_rule station r m l = record { reply = Conf (conf.StopTransaction (info_of r.id_tag m l)); edit = edit_of_stop station r m l }
