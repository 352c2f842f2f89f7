-- What a plan changes of the records and of the calls of a station, and what those calls say as they
-- end or go out.
use Rattle.std.specs.Prelude.{ℕ, List, [], ◌∷◌, map, Option, Some, None}
use Rattle.std.specs.List.{flat_map}
use Rattle.hub_rows.specs.declared.change.Edit.{Edit}
use Rattle.hub_rows.specs.Keyed.{by_key, put}
use Rattle.operator_cmds.specs.declared.command.Command.{Command}
use Rattle.pending_calls.specs.declared.call.Call.{Call}
use Rattle.pending_calls.specs.declared.call.Message.{Message}
use Rattle.pending_calls.specs.declared.call.Moved.{Moved}
use Rattle.pending_calls.specs.Slot.{answer_move, answered, cut, ended_calls, expiry, most_calls, sent_now, submitted, with_connection}
use Rattle.pending_calls.specs.SlotList.{changed_at, slot_key, slot_of}
use Rattle.hub_events.specs.declared.out.Out.{Out}
use Rattle.hub_events.specs.declared.out.Outcome.{Outcome}
use Rattle.hub_events.specs.declared.out.Outcome.TheVariants.{Disconnected, Timeout}
use Rattle.hub_events.specs.declared.out.Said.TheVariants as said
use Rattle.plans.specs.declared.plan.Effect.{Effect}
use Rattle.plans.specs.declared.plan.Effect.TheVariants as effect
use Rattle.plans.specs.Effects.{StationSlot}

-- ---- records

-- the edit of the records that an effect is
abbrev pub edit_of : Effect → Option Edit
edit_of effect.Nothing = None
edit_of (effect.Edit e) = Some e
edit_of (effect.Connect station) = None
edit_of (effect.Disconnect station) = None
edit_of (effect.Submit station command text) = None
edit_of (effect.Answer station id outcome edit) = edit

-- ---- slots

-- the slots of all stations after an effect at moment m for operator b; the calls of a station are
-- counted from `first`
abbrev pub slots_after : ℕ → List ℕ → ℕ → Effect → List StationSlot → List StationSlot
slots_after first b m effect.Nothing slots = slots
slots_after first b m (effect.Edit e) slots = slots
slots_after first b m (effect.Connect station) slots = put (by_key slot_key) (with_connection (slot_of first b station slots)) slots
slots_after first b m (effect.Disconnect station) slots = changed_at b station cut slots
slots_after first b m (effect.Submit station command text) slots = changed_at b station (submitted command text m) slots
slots_after first b m (effect.Answer station id outcome edit) slots = changed_at b station (answered id m) slots

-- ---- what is said

-- a call has ended
abbrev pub done : Outcome → Call Command → Out
done outcome call = record { op = call.op; said = said.Done call.station call.number outcome }

-- a call goes out
abbrev pub sent : Option Message → List Out
sent None = []
sent (Some message) = record { op = message.op; said = said.Send message.station message.text } ∷ []

-- a call ends, and the next one goes out
abbrev pub moved_outputs : Outcome → Option (Moved Command) → List Out
moved_outputs outcome None = []
moved_outputs outcome (Some moved) = done outcome moved.ended ∷ sent moved.next

-- what is said at a tick at moment m: at each station the call in flight ends if it was sent too long ago
abbrev pub tick_outputs : ℕ → List StationSlot → List Out
tick_outputs m slots = flat_map (λ s. moved_outputs Timeout (expiry m s)) slots

-- what is said of the calls of a station as an effect changes its slot
abbrev pub effect_outputs : Effect → (List ℕ → StationSlot) → List Out
effect_outputs effect.Nothing slot = []
effect_outputs (effect.Edit e) slot = []
effect_outputs (effect.Connect station) slot = map (done Disconnected) (ended_calls (slot station))
effect_outputs (effect.Disconnect station) slot = map (done Disconnected) (ended_calls (slot station))
effect_outputs (effect.Submit station command text) slot = sent (sent_now text (slot station))
effect_outputs (effect.Answer station id outcome edit) slot = moved_outputs outcome (answer_move id (slot station))

-- ---- the room that it needs

-- how many outputs may come of the calls that an effect ends or sends
abbrev pub room_of : Effect → ℕ
room_of effect.Nothing = 0
room_of (effect.Edit e) = 0
room_of (effect.Connect station) = most_calls
room_of (effect.Disconnect station) = most_calls
room_of (effect.Submit station command text) = 1
room_of (effect.Answer station id outcome edit) = 2
