-- Two systems, in which one operator has the same and is shown the same.
use Rattle.std.specs.Prelude.{◌≡◌, ℕ, ◌≤◌, ◌<◌, List, length, take, slice_index_or, false, Option}
use Rattle.hub_events.specs.declared.event.Event.{Event}
use Rattle.hub_events.specs.declared.event.Event.TheVariants.{At, Tick}
use Rattle.hub.specs.Hub.{is_taken}
use Rattle.hub.specs.View.{granted_to, uses_of, view, seen}
use Rattle.hub.specs.World.{Setting, World, world_run, world_step}

-- two settings in which the same operators are hosted, vendors' messages are answered alike, and calls are
-- counted from the same number
pub record AreAlike (s t : Setting) : Type 0 where
  pub hosted : (b : List ℕ) → s.is_hosted b ≡ t.is_hosted b
  pub answers : (vendor : List ℕ) (message content : Option (List ℕ)) → s.answers vendor message content ≡ t.answers vendor message content
  pub first_number : s.first_number ≡ t.first_number

-- operator a has the same in two worlds, and two lists of events show it the same there
pub record AreSameTo (a : List ℕ) (s : Setting) (w : World) (es : List Event) (t : Setting) (v : World) (fs : List Event) : Type 0 where
  pub settings : AreAlike s t
  pub views : view a w ≡ view a v
  pub seen : seen s a w es ≡ seen t a v fs

-- an event of operator a, or a tick, which is of all operators
abbrev pub IsItsOwn : List ℕ → Event → Type 0
IsItsOwn a (At b m what) = b ≡ a
IsItsOwn a (Tick m) = Unit {0}

-- one more event leaves the tags that are granted to operator a, and the uses of a's tags, as the others left
-- them
pub record LeavesShown (a : List ℕ) (s : Setting) (w : World) (es : List Event) (e : Event) : Type 0 where
  pub granted : granted_to a (world_step s (world_run s w es) e) ≡ granted_to a (world_run s w es)
  pub uses : uses_of a (world_step s (world_run s w es) e) ≡ uses_of a (world_run s w es)

-- a world after the first of some events, all that came before a fault
pub record IsAfterSome (s : Setting) (w : World) (es : List Event) (v : World) : Type 0 where
  pub taken : ℕ
  pub within : taken ≤ length es
  pub world : v ≡ world_run s w (take taken es)

-- an event of an operator that isn't hosted is among them
pub record HasNotTaken (s : Setting) (es : List Event) : Type 0 where
  pub place : ℕ
  pub within : place < length es
  pub not_taken : (e : Event) → is_taken s (slice_index_or es place e) ≡ false
