-- What an effect does to the slots of one operator, and which operator it speaks to.
use Rattle.std.specs.Prelude.{◌≡◌, ◌≢◌, ℕ, List, [], ◌∷◌, ◌++◌, Option, Some, None, Bool, true, false, cond, map}
use Rattle.std.proofs.Common.{refl, sym, subst, ◌∙◌, ap}
use Rattle.std.specs.List.{AllByRecursion}
use Rattle.std.specs.List.Sorted.{IsStrictlySortedBy}
use Rattle.std.specs.Str.{bytes_eq}
use Rattle.std.proofs.lemmas.Bool.{true≢false}
use Rattle.std.proofs.lemmas.List.Elements.{filter-append}
use Rattle.hub_rows.specs.Keyed.{by_key}
use Rattle.hub_rows.proofs.ListLaws.{other_text, text_itself, same_text}
use Rattle.operator_cmds.specs.declared.command.Command.{Command}
use Rattle.pending_calls.specs.Slot.{Flight, Queued, answer_move, answered, cut, ended_calls, expiry, in_flight_first, is_answered, is_overdue, move, next_message, sent_now, submitted, waiting_calls, with_connection}
use Rattle.pending_calls.specs.SlotList.{slot_key, slot_of}
use Rattle.pending_calls.specs.OwnSlots.{own_slots}
use Rattle.pending_calls.proofs.OwnSlots.{answered_op, changed_at-other, changed_at-own, connect-other, connect-own, sorted-changed_at, sorted-put_slot}
use Rattle.pending_calls.proofs.Places.{answered_key}
use Rattle.hub_events.specs.declared.out.Out.{Out}
use Rattle.hub_events.specs.declared.out.Outcome.{Outcome}
use Rattle.hub_events.specs.declared.out.Outcome.TheVariants.{Disconnected, Timeout}
use Rattle.plans.specs.declared.plan.Effect.{Effect}
use Rattle.plans.specs.declared.plan.Effect.TheVariants as effect
use Rattle.plans.specs.Effects.{StationSlot}
use Rattle.hub.specs.Effects.{done, sent, moved_outputs, effect_outputs, slots_after, tick_outputs}
use Rattle.hub.specs.View.{own_slots_after}
use Rattle.hub.specs.World.{outputs_of}

-- ---- slots

pub slots_after-own : (first : ℕ) (a : List ℕ) (m : ℕ) (e : Effect) (slots : List StationSlot) → IsStrictlySortedBy (by_key slot_key) slots → own_slots a (slots_after first a m e slots) ≡ own_slots_after first a m e (own_slots a slots)
slots_after-own first a m effect.Nothing slots sorted = refl
slots_after-own first a m (effect.Edit e) slots sorted = refl
slots_after-own first a m (effect.Connect station) slots sorted = connect-own a first station slots sorted
slots_after-own first a m (effect.Disconnect station) slots sorted = changed_at-own a station cut slots (λ s. refl)
slots_after-own first a m (effect.Submit station command text) slots sorted = changed_at-own a station (submitted command text m) slots (λ s. refl)
slots_after-own first a m (effect.Answer station id outcome edit) slots sorted = changed_at-own a station (answered id m) slots (answered_op id m)

pub slots_after-other : (first : ℕ) (a b : List ℕ) (m : ℕ) (e : Effect) (slots : List StationSlot) → b ≢ a → own_slots a (slots_after first b m e slots) ≡ own_slots a slots
slots_after-other first a b m effect.Nothing slots other = refl
slots_after-other first a b m (effect.Edit e) slots other = refl
slots_after-other first a b m (effect.Connect station) slots other = connect-other a b station first slots other
slots_after-other first a b m (effect.Disconnect station) slots other = changed_at-other a b station cut slots (λ s. refl) other
slots_after-other first a b m (effect.Submit station command text) slots other = changed_at-other a b station (submitted command text m) slots (λ s. refl) other
slots_after-other first a b m (effect.Answer station id outcome edit) slots other = changed_at-other a b station (answered id m) slots (answered_op id m) other

pub slots_after-sorted : (first : ℕ) (b : List ℕ) (m : ℕ) (e : Effect) (slots : List StationSlot) → IsStrictlySortedBy (by_key slot_key) slots → IsStrictlySortedBy (by_key slot_key) (slots_after first b m e slots)
slots_after-sorted first b m effect.Nothing slots sorted = sorted
slots_after-sorted first b m (effect.Edit e) slots sorted = sorted
slots_after-sorted first b m (effect.Connect station) slots sorted = sorted-put_slot (with_connection (slot_of first b station slots)) slots sorted
slots_after-sorted first b m (effect.Disconnect station) slots sorted = sorted-changed_at b station cut slots (λ s. refl) sorted
slots_after-sorted first b m (effect.Submit station command text) slots sorted = sorted-changed_at b station (submitted command text m) slots (λ s. refl) sorted
slots_after-sorted first b m (effect.Answer station id outcome edit) slots sorted = sorted-changed_at b station (answered id m) slots (answered_key id m) sorted

-- ---- outputs for one operator

-- all outputs are for operator b
abbrev pub AreFor : List ℕ → List Out → Type 0
AreFor b outs = AllByRecursion (λ o. o.op ≡ b) outs

pub append-for : (b : List ℕ) (outs more : List Out) → AreFor b outs → AreFor b more → AreFor b (outs ++ more)
append-for b [] more named also = also
append-for b (o ∷ outs) more named also = (named.0, append-for b outs more named.1 also)

-- those for the operator itself are all there, and for another there is none
pub outputs_of-own : (a : List ℕ) (outs : List Out) → AreFor a outs → outputs_of a outs ≡ outs
outputs_of-own a [] named = refl
outputs_of-own a (o ∷ outs) named =
    ap (λ t. cond t (o ∷ outputs_of a outs) (outputs_of a outs)) (text_itself o.op a named.0)
    ∙ ap (λ os. o ∷ os) (outputs_of-own a outs named.1)

pub outputs_of-other : (a b : List ℕ) (outs : List Out) → AreFor b outs → b ≢ a → outputs_of a outs ≡ []
outputs_of-other a b [] named other = refl
outputs_of-other a b (o ∷ outs) named other =
    ap (λ t. cond t (o ∷ outputs_of a outs) (outputs_of a outs)) (other_text o.op a (λ e. other (sym named.0 ∙ e)))
    ∙ outputs_of-other a b outs named.1 other

-- ---- what is said of the calls of a slot is for its operator

waiting_for : (s : StationSlot) (o : Outcome) (qs : List (Queued Command)) → AreFor s.op (map (done o) (waiting_calls s qs))
waiting_for s o [] = tt
waiting_for s o (q ∷ qs) = (refl, waiting_for s o qs)

ended_for : (s : StationSlot) (o : Outcome) (f : Option (Flight Command)) → AreFor s.op (map (done o) (in_flight_first s f (waiting_calls s s.waiting)))
ended_for s o None = waiting_for s o s.waiting
ended_for s o (Some f) = (refl, waiting_for s o s.waiting)

next_for : (s : StationSlot) (qs : List (Queued Command)) → AreFor s.op (sent (next_message s qs))
next_for s [] = tt
next_for s (q ∷ qs) = (refl, tt)

move_for : (s : StationSlot) (o : Outcome) (f : Option (Flight Command)) → AreFor s.op (moved_outputs o (move (record s { in_flight = f })))
move_for s o None = tt
move_for s o (Some f) = (refl, next_for s s.waiting)

if_moved : (s : StationSlot) (o : Outcome) (t : Bool) → AreFor s.op (moved_outputs o (cond t (move s) None))
if_moved s o true = move_for s o s.in_flight
if_moved s o false = tt

sent_for : (s : StationSlot) (text : List ℕ) (f : Option (Flight Command)) → AreFor s.op (sent (sent_now text (record s { in_flight = f })))
sent_for s text None = (refl, tt)
sent_for s text (Some f) = tt

-- what is said of an effect is for the operator that the slots are of
pub effect-for : (b : List ℕ) (e : Effect) (slot : List ℕ → StationSlot) → ((station : List ℕ) → (slot station).op ≡ b) → AreFor b (effect_outputs e slot)
effect-for b effect.Nothing slot named = tt
effect-for b (effect.Edit e) slot named = tt
effect-for b (effect.Connect station) slot named = subst (λ op. AreFor op (map (done Disconnected) (ended_calls (slot station)))) (named station) (ended_for (slot station) Disconnected (slot station).in_flight)
effect-for b (effect.Disconnect station) slot named = subst (λ op. AreFor op (map (done Disconnected) (ended_calls (slot station)))) (named station) (ended_for (slot station) Disconnected (slot station).in_flight)
effect-for b (effect.Submit station command text) slot named = subst (λ op. AreFor op (sent (sent_now text (slot station)))) (named station) (sent_for (slot station) text (slot station).in_flight)
effect-for b (effect.Answer station id outcome edit) slot named = subst (λ op. AreFor op (moved_outputs outcome (answer_move id (slot station)))) (named station) (if_moved (slot station) outcome (is_answered id (slot station)))

-- ---- a tick

pub differs : (a b : List ℕ) → bytes_eq b a ≡ false → b ≢ a
differs a b e same = true≢false (sym (text_itself b a same) ∙ e)

-- what a tick says to an operator is what the tick of its own slots says
pub tick_outputs-own : (a : List ℕ) (m : ℕ) (slots : List StationSlot) → outputs_of a (tick_outputs m slots) ≡ tick_outputs m (own_slots a slots)
tick_outputs-own a m [] = refl
tick_outputs-own a m (s ∷ slots) =
    let here = moved_outputs Timeout (expiry m s) in
    let named : AreFor s.op here = if_moved s Timeout (is_overdue m s) in
    filter-append (λ o. bytes_eq o.op a) here (tick_outputs m slots)
    ∙ elim (bytes_eq s.op a) as (λ t. bytes_eq s.op a ≡ t → outputs_of a here ++ outputs_of a (tick_outputs m slots) ≡ tick_outputs m (cond t (s ∷ own_slots a slots) (own_slots a slots))) [
      | true ↦ λ mine. λ i. outputs_of-own a here (subst (λ op. AreFor op here) (same_text s.op a mine) named) i ++ tick_outputs-own a m slots i
      | false ↦ λ other. λ i. outputs_of-other a s.op here named (differs a s.op other) i ++ tick_outputs-own a m slots i
    ] refl
