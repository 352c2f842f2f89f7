-- What the hub takes of its peers, in order.
use Rattle.std.specs.Prelude.{ℕ, ◌+◌, Bool, Option, List, [], ◌∷◌, length, ◌≡◌, true}
use Rattle.hub_events.specs.declared.event.Event.{Event}
use Rattle.hub_events.specs.declared.out.Out.{Out}
use Rattle.hub_rows.specs.StoreView.{StoreView}
use Rattle.hub_rows.specs.declared.store.Flush.TheVariants.{Later}
use Rattle.journal.specs.Entries.{IsCount}
use Rattle.lines.specs.Journal.{Stands}
use Rattle.station_calls.specs.Vendors.{HandlerView}
use Rattle.turn_hub.specs.declared.turn_hub.TurnHub.{TurnHub}
use Rattle.hub.specs.Hub.{is_taken}
use Rattle.turn_hub.specs.Journals.{AreUpTo, Counts, Journals, Notes}
use Rattle.turn_hub.specs.TurnHub.{flush_of, world, setting, is_clean}
use Rattle.hub.specs.World.{Setting, World, world_outputs, world_step}

-- an event that the hub took, and its outputs
pub record Step : Type 0 where
  pub event : Event
  pub outs : List Out

-- the steps are those of the written table from one world to another
abbrev pub Runs : Setting → World → List Step → World → Type 0
Runs setting w [] v = v ≡ w
Runs setting w (s ∷ steps) v =
    (is_taken setting s.event ≡ true) × (s.outs ≡ world_outputs setting w s.event) × Runs setting (world_step setting w s.event) steps v

-- an event can stand in a journal where those operators are hosted, an order with its text
abbrev pub CanStand : (List ℕ → Bool) → Event → Type 0
CanStand is_hosted event = (order : List ℕ) × Stands is_hosted event order

abbrev pub AllStand : (List ℕ → Bool) → List Step → Type 0
AllStand is_hosted [] = Unit {0}
AllStand is_hosted (s ∷ steps) = CanStand is_hosted s.event × AllStand is_hosted steps

-- the text is that of the event, if it is an order
abbrev pub IsOrderOf : Event → List ℕ → Type 0
IsOrderOf event order = (is_hosted : List ℕ → Bool) → CanStand is_hosted event → Stands is_hosted event order

-- the events of a journal before some steps and after them
abbrev pub NotesAll : List Event → List Step → List Event → Type 0
NotesAll events [] after = after ≡ events
NotesAll events (s ∷ steps) after = (next : List Event) × Notes events s.event s.outs next × NotesAll next steps after

module _ {S V W : Type 0} where
  -- the journal has the events of some steps, where changes wait for the end of the turn
  pub record JournalsSteps (contents : W → Option (List ℕ)) (old new : TurnHub S V W) (steps : List Step) : Type 0 where
    pub waits : flush_of old ≡ Later → flush_of new ≡ Later
    pub counts : Counts (length steps) old new
    pub notes : flush_of old ≡ Later → (n : ℕ) → AreUpTo n old → IsCount (length steps + n + 2) → (is_hosted : List ℕ → Bool) → AllStand is_hosted steps
        → (events : List Event) → Journals contents is_hosted old events → (after : List Event) × NotesAll events steps after × Journals contents is_hosted new after

  -- a hub takes some steps, of which Change holds
  pub record Takes (view : S → StoreView) (handlers : V → HandlerView) (contents : W → Option (List ℕ)) (old new : TurnHub S V W) (Change : List Step → Type 0) : Type 0 where
    pub steps : List Step
    pub change : Change steps
    pub runs : is_clean view new → Runs (setting handlers old) (world view old) steps (world view new)
    -- its operators and its answers to vendors' messages stay
    pub stays : setting handlers new ≡ setting handlers old
    pub journals : JournalsSteps contents old new steps
