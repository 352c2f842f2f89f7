-- How a StartTransaction is answered, and what it changes.
use Rattle.std.specs.Prelude.{ℕ, ◌+◌, nat_le, List, if◌then◌else◌, Option, Some, None}
use Rattle.ocpp_types.specs.TagKey.{key_of}
use Rattle.ocpp_types.specs.declared.authorization_status.AuthorizationStatus.{AuthorizationStatus}
use Rattle.ocpp_payload.specs.declared.conf.Conf.TheVariants as conf
use Rattle.ocpp_payload.specs.declared.request.StartTransaction.{StartTransaction}
use Rattle.hub_rows.specs.declared.change.Edit.TheVariants.{Transactions}
use Rattle.hub_rows.specs.declared.change.TransactionEdit.TheVariants.{TxStarted}
use Rattle.hub_rows.specs.declared.tx_row.Start.{Start}
use Rattle.hub_rows.specs.declared.tx_row.StartKey.{StartKey}
use Rattle.hub_rows.specs.Lookups.{Lookups}
use Rattle.hub_rows.specs.Transactions.{last_of_all}
use Rattle.id_tags.specs.Judge.{judge_rule, judge_with_owner}
use Rattle.id_tags.specs.declared.judgement.Judged.{Judged}
use Rattle.id_tags.specs.declared.judgement.Purpose.TheVariants as purpose
use Rattle.registry.specs.declared.decision.Decision.{Decision}
use Rattle.registry.specs.declared.decision.Reply.TheVariants.{Conf}
use Rattle.registry.specs.InternalError.{internal_error}

-- what tells the start from others of the station
abbrev pub start_key : StartTransaction → StartKey
start_key r = record { connector = r.connector_id; key = key_of r.id_tag; meter_start = r.meter_start; at = r.timestamp }

-- the start as it is kept, by how its tag is judged
abbrev pub start_of : StartTransaction → StartKey → ℕ → AuthorizationStatus → Start
start_of r id m status = record { id = id; tag = r.id_tag; reservation = r.reservation_id; status = status; begun = m }

-- a start that has number n; its own transaction is no other use of its tag
abbrev pub repeat_decision : List ℕ → StartKey → ℕ → Lookups → ℕ → Decision
repeat_decision station id m l n = record {
  reply = Conf (conf.StartTransaction (judge_rule m id.key (purpose.Start (Some (record { station = station; number = n }))) l) n);
  edit = None;
}

-- transaction n begins; where its tag is accepted, the operator that granted it is kept
abbrev pub begin_decision : List ℕ → Start → Judged → ℕ → Decision
begin_decision station start judged n = record {
  reply = Conf (conf.StartTransaction judged.info n);
  edit = Some (Transactions (TxStarted station n start judged.owner));
}

-- whatever the judgement of its tag is
abbrev pub begin_judged : List ℕ → StartTransaction → StartKey → ℕ → ℕ → Judged → Decision
begin_judged station r id m n judged = begin_decision station (start_of r id m judged.info.status) judged n

-- after the last number that was given
abbrev pub begin_after : List ℕ → StartTransaction → StartKey → ℕ → Lookups → ℕ → Decision
begin_after station r id m l last =
    if nat_le last_of_all last then internal_error else begin_judged station r id m (last + 1) (judge_with_owner m id.key (purpose.Start None) l)

abbrev pub new_start : List ℕ → StartTransaction → StartKey → ℕ → Lookups → Decision
new_start station r id m l = begin_after station r id m l (l.last_tx station)

-- by the number that it has
abbrev pub start_by_number : List ℕ → StartTransaction → StartKey → ℕ → Lookups → Option ℕ → Decision
start_by_number station r id m l None = new_start station r id m l
start_by_number station r id m l (Some n) = repeat_decision station id m l n

abbrev pub start_by_key : List ℕ → StartTransaction → StartKey → ℕ → Lookups → Decision
start_by_key station r id m l = start_by_number station r id m l (l.same_start station id)

abbrev pub start_rule : List ℕ → StartTransaction → ℕ → Lookups → Decision
start_rule station r m l = start_by_key station r (start_key r) m l
