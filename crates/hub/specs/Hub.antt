-- A hub, as contracts see it.
use Rattle.std.specs.Prelude.{ℕ, List, Bool, true}
use Rattle.hub_rows.specs.StoreView.{StoreView}
use Rattle.hub_rows.specs.Operators.{is_hosted}
use Rattle.station_calls.specs.Book.{book_view, book_answers}
use Rattle.station_calls.specs.Vendors.{HandlerView, answer_of}
use Rattle.hub_events.specs.declared.event.Event.{Event}
use Rattle.hub_events.specs.declared.event.Event.TheVariants.{At, Tick}
use Rattle.hub.specs.declared.hub.Hub.{Hub}
use Rattle.pending_calls.specs.Slots.{all_slots, first_number}
use Rattle.hub.specs.World.{Setting, World}

-- its store
abbrev pub store_of : {S V : Type 0} → Hub S V → S
store_of h = h.book.store

-- its store, as contracts see it
abbrev pub hub_view : {S V : Type 0} → (S → StoreView) → Hub S V → StoreView
hub_view view h = book_view view h.book

-- whether its store is clean, and how often its store has failed
abbrev pub is_clean : {S V : Type 0} → (S → StoreView) → Hub S V → Type 0
is_clean view h = (hub_view view h).clean

abbrev pub failures_of : {S V : Type 0} → (S → StoreView) → Hub S V → ℕ
failures_of view h = (hub_view view h).failures

-- the records of its store and the slots of its stations
abbrev pub world : {S V : Type 0} → (S → StoreView) → Hub S V → World
world view h = record { rows = (hub_view view h).rows; slots = all_slots h.slots }

-- a setting of operators and handlers; calls are counted from 1
unfoldable pub setting_of : {V : Type 0} → (V → HandlerView) → List (List ℕ) → List V → Setting
setting_of view hosted vendors = record { is_hosted = is_hosted hosted; answers = answer_of view vendors; first_number = 1 }

-- which operators it hosts, its answers to vendors' messages, and the number of the first call of a station
unfoldable pub setting : {S V : Type 0} → (V → HandlerView) → Hub S V → Setting
setting view h = record { is_hosted = is_hosted h.hosted.items; answers = book_answers view h.book; first_number = first_number h.slots }

-- whether the operator of an event is among the hosted ones; a tick is of all operators
abbrev pub is_of_hosted : (List ℕ → Bool) → Event → Bool
is_of_hosted is_hosted (At b m what) = is_hosted b
is_of_hosted is_hosted (Tick m) = true

-- whether a hub with that setting handles an event
abbrev pub is_taken : Setting → Event → Bool
is_taken setting e = is_of_hosted setting.is_hosted e
