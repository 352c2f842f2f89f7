-- What is said, and what changes, as each event's answer is known.
use Rattle.std.specs.Prelude.{ℕ, List, [], ◌∷◌, ◌++◌, if◌then◌else◌, length, map, Option, Some, None, Result, Ok, Err}
use Rattle.serde_json.specs.Written.{compact_text}
use Rattle.ocpp_types.specs.ErrorCode.{error_code_name}
use Rattle.ocpp_types.specs.declared.error_code.ErrorCode.{ErrorCode}
use Rattle.ocpp_types.specs.declared.refusal.Refusal.{Refusal}
use Rattle.ocpp_frame.specs.Written.{result_data, error_data}
use Rattle.ocpp_payload.specs.declared.action.Action.{Action}
use Rattle.ocpp_payload.specs.declared.conf.Conf.{Conf as Answer}
use Rattle.ocpp_payload.specs.declared.fault.FieldFault.{FieldFault}
use Rattle.ocpp_payload.specs.Conf.{conf_data}
use Rattle.hub_rows.specs.declared.change.Edit.{Edit}
use Rattle.hub_rows.specs.declared.change.Edit.TheVariants.{Transactions}
use Rattle.hub_rows.specs.declared.change.TransactionEdit.TheVariants.{Forgotten}
use Rattle.hub_rows.specs.declared.forgettable.History.{History}
use Rattle.hub_rows.specs.Forgetting.{count_readings, has_no_rows, numbers_of, up_to}
use Rattle.hub_rows.specs.declared.station_row.Registration.{Registration}
use Rattle.registry.specs.declared.decision.Decision.{Decision}
use Rattle.registry.specs.declared.decision.Reply.{Reply}
use Rattle.registry.specs.declared.decision.Reply.TheVariants.{Conf, Error}
use Rattle.hub_events.specs.declared.event.HistoryEnds.{HistoryEnds}
use Rattle.hub_events.specs.declared.out.Said.{Said}
use Rattle.hub_events.specs.declared.out.Said.TheVariants as said
use Rattle.plans.specs.declared.plan.Effect.{Effect}
use Rattle.plans.specs.declared.plan.Effect.TheVariants as effect
use Rattle.plans.specs.declared.plan.Plan.{Plan}
use Rattle.hub_events.specs.declared.listing.Row.{Row}
use Rattle.hub_events.specs.declared.listing.Row.TheVariants as row
use Rattle.plans.specs.Effects.{edit_effect}

-- nothing is said and nothing changes
abbrev pub nothing : Plan
nothing = record { said = []; effect = effect.Nothing }

-- one thing is said and nothing changes
abbrev pub only : Said → Plan
only s = record { said = s ∷ []; effect = effect.Nothing }

-- what is said is said by the effect alone
abbrev pub changing : Effect → Plan
changing e = record { said = []; effect = e }

-- ---- connections

-- a station is turned away
abbrev pub turned_plan : List ℕ → Plan
turned_plan station = only (said.Turned station)

-- a station connects if it is registered
abbrev pub connect_plan : List ℕ → Option Registration → Plan
connect_plan station None = turned_plan station
connect_plan station (Some r) = changing (effect.Connect station)

-- the calls of a station end, if it has any
abbrev pub disconnect_plan : List ℕ → Plan
disconnect_plan station = changing (effect.Disconnect station)

-- ---- frames

-- a text goes to a station
abbrev pub sent_plan : List ℕ → List ℕ → Plan
sent_plan station text = only (said.Send station text)

-- the text of a call's error, without details
abbrev pub error_text : List ℕ → ErrorCode → List ℕ → List ℕ
error_text id c description = compact_text (error_data id (error_code_name c) description)

-- a call is answered with an error
abbrev pub error_plan : List ℕ → List ℕ → ErrorCode → List ℕ → Plan
error_plan station id c description = sent_plan station (error_text id c description)

-- the text of an answer
unfoldable pub conf_text : List ℕ → Answer → List ℕ
conf_text id conf = compact_text (result_data id (conf_data conf))

-- the text of a decision's reply
abbrev pub reply_text : List ℕ → Reply → List ℕ
reply_text id (Conf conf) = conf_text id conf
reply_text id (Error c) = error_text id c []

-- a call is answered as its rule decided
abbrev pub decided_plan : List ℕ → List ℕ → Decision → Plan
decided_plan station id d = record { said = said.Send station (reply_text id d.reply) ∷ []; effect = edit_effect d.edit }

-- the same of a call that is read with repairs, which is told before: the action, and the fault for which it is refused
-- otherwise
abbrev pub repaired_plan : List ℕ → List ℕ → Action → FieldFault → Decision → Plan
repaired_plan station id action fault d = record { said = said.Repaired station action fault ∷ said.Send station (reply_text id d.reply) ∷ []; effect = edit_effect d.edit }

-- ---- requests of the operator

-- an edit is taken or refused
abbrev pub edit_plan : Result Edit Refusal → Plan
edit_plan (Ok edit) = record { said = said.Accepted None ∷ []; effect = effect.Edit edit }
edit_plan (Err refusal) = only (said.Refused refusal)

-- what goes of a history: all, or up to ends
abbrev pub up_to_ends : Option HistoryEnds → History → History
up_to_ends None h = h
up_to_ends (Some ends) h = up_to ends.reading ends.transaction h

-- rows of a station go, if there are any
abbrev pub forgetting : List ℕ → History → Effect
forgetting station gone = if has_no_rows gone then effect.Nothing else effect.Edit (Transactions (Forgotten station (numbers_of gone)))

-- how many go is told
abbrev pub forgotten_plan : List ℕ → History → Plan
forgotten_plan station gone = record { said = said.Row (row.Forgotten station (length gone.transactions) (count_readings gone.meter_values)) ∷ said.Accepted None ∷ []; effect = forgetting station gone }

abbrev pub forget_plan : List ℕ → Option HistoryEnds → Result History Refusal → Plan
forget_plan station ends (Ok h) = forgotten_plan station (up_to_ends ends h)
forget_plan station ends (Err refusal) = only (said.Refused refusal)

-- a listing shows its rows, and is then taken
abbrev pub list_plan : Result (List Row) Refusal → Plan
list_plan (Ok rows) = record { said = map said.Row rows ++ said.Accepted None ∷ []; effect = effect.Nothing }
list_plan (Err refusal) = only (said.Refused refusal)
