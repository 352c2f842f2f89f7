-- How a command of an operator is taken or refused.
use Rattle.std.specs.Prelude.{ℕ, ℤ, pos, negsuc, nat_le, List, [], ◌∷◌, Bool, true, false, not, if◌then◌else◌, Option, Some, None, option_map, option_and_then, Result, Ok, Err}
use Rattle.std.specs.Fmt.{decimal}
use Rattle.std.specs.Option.{option_or}
use Rattle.serde_json.specs.Written.{compact_text}
use Rattle.ocpp_types.specs.declared.refusal.Refusal.{Refusal}
use Rattle.ocpp_types.specs.declared.refusal.Refusal.TheVariants.{NoSuchStation, NotAllowedNow, BadField, NoSuchTransaction}
use Rattle.ocpp_types.specs.declared.state.State.{State}
use Rattle.ocpp_types.specs.declared.state.State.TheVariants as state
use Rattle.ocpp_frame.specs.Written.{call_data}
use Rattle.hub_rows.specs.declared.station_row.Registration.{Registration}
use Rattle.hub_rows.specs.declared.tx_row.TxState.{TxState}
use Rattle.hub_rows.specs.Lookups.{Lookups}
use Rattle.hub_rows.specs.Transactions.{last_of_all}
use Rattle.holdings.specs.Reservation.{cancel_rule, reserve_rule}
use Rattle.id_tags.specs.Refusal.{refuse_rule}
use Rattle.operator_cmds.specs.Command.{action_name_of, bad_field, command_data}
use Rattle.operator_cmds.specs.declared.command.Command.{Command}
use Rattle.operator_cmds.specs.declared.command.Command.TheVariants.{CancelReservation, RemoteStartTransaction, RemoteStopTransaction, ReserveNow}
use Rattle.pending_calls.specs.OwnSlots.{ready_among}
use Rattle.hub_events.specs.declared.out.Said.TheVariants as said
use Rattle.plans.specs.declared.plan.Effect.TheVariants as effect
use Rattle.plans.specs.declared.plan.Plan.{Plan}
use Rattle.plans.specs.Effects.{StationSlot}
use Rattle.plans.specs.Plans.{only}

-- ---- what refuses a command

-- a command that starts or stops a transaction
abbrev pub is_remote : Command → Bool
is_remote (RemoteStartTransaction c) = true
is_remote (RemoteStopTransaction c) = true
is_remote c = false

-- the commands that a station in a state may be sent
abbrev pub is_command_allowed : State → Command → Bool
is_command_allowed state.Fresh c = false
is_command_allowed state.Rejected c = false
is_command_allowed state.Pending c = not (is_remote c)
is_command_allowed state.Accepted c = true

-- the number that a transaction's id names
abbrev pub transaction_number : ℤ → Option ℕ
transaction_number (pos n) = if nat_le n last_of_all then Some n else None
transaction_number (negsuc n) = None

-- the refusal of a stop, unless the transaction is open
abbrev pub transaction_refusal : Option TxState → Option Refusal
transaction_refusal None = Some NoSuchTransaction
transaction_refusal (Some t) = if t.is_open then None else Some NoSuchTransaction

-- a tag that is to charge or to reserve is judged as for an Authorize, a transaction that is to stop is
-- open, a reservation that is to be cancelled counts
abbrev pub record_refusal : List ℕ → Command → ℕ → Lookups → Option Refusal
record_refusal station (CancelReservation c) m l = cancel_rule station c m l
record_refusal station (RemoteStartTransaction c) m l = refuse_rule m c.id_tag l
record_refusal station (RemoteStopTransaction c) m l = transaction_refusal (option_and_then (l.tx station) (transaction_number c.transaction_id))
record_refusal station (ReserveNow c) m l = reserve_rule c m l
record_refusal station c m l = None

-- the first refusal of a command to a station that is ready for a call
abbrev pub command_refusal : List ℕ → Command → Registration → ℕ → Lookups → Option Refusal
command_refusal station c r m l =
    if is_command_allowed r.state c then option_or (option_map BadField (bad_field c)) (record_refusal station c m l) else Some NotAllowedNow

-- a number, unless something refuses it
abbrev pub number_unless : Option Refusal → ℕ → Result ℕ Refusal
number_unless None n = Ok n
number_unless (Some refusal) n = Err refusal

-- the number of its call, where the station is ready
abbrev pub number_of_ready : Option Refusal → Result ℕ Refusal → Result ℕ Refusal
number_of_ready refusal (Ok n) = number_unless refusal n
number_of_ready refusal (Err unready) = Err unready

-- the number of the call that a command becomes, or its first refusal, by the slots of its operator and
-- that of the station
abbrev pub command_rule : List ℕ → Command → Option Registration → List StationSlot → StationSlot → ℕ → Lookups → Result ℕ Refusal
command_rule station c None slots s m l = Err NoSuchStation
command_rule station c (Some r) slots s m l = number_of_ready (command_refusal station c r m l) (ready_among slots s)

-- ---- its plan

-- the text of a call: the number in decimal is its id
unfoldable pub call_text : ℕ → Command → List ℕ
call_text n c = compact_text (call_data (decimal n) (action_name_of c) (command_data c))

-- it is accepted with its number, and becomes a call
abbrev pub command_plan : List ℕ → Command → Result ℕ Refusal → Plan
command_plan station c (Ok n) = record { said = said.Accepted (Some n) ∷ []; effect = effect.Submit station c (call_text n c) }
command_plan station c (Err refusal) = only (said.Refused refusal)
