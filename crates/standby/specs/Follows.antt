-- What a hub that follows a journal takes of it.
use Rattle.std.specs.Prelude.{◌≡◌, ℕ, ◌==◌, Bool, List, [], ◌∷◌, ◌++◌, length, Option, Some, None, take, if◌then◌else◌}
use Rattle.hub_events.specs.declared.event.Event.{Event as HubEvent}
use Rattle.hub.specs.World.{Setting, World, world_run}
use Rattle.journal.specs.Entries.{entry_of}
use Rattle.journal.specs.Journals.{lines_of}
use Rattle.journal.specs.Tails.{ends_turn}
use Rattle.journal.specs.declared.entry.Entry.{Entry}
use Rattle.standby.specs.declared.waiting.Waiting.{Waiting}
use Rattle.standby.specs.declared.waiting.Passed.{Passed}
use Rattle.standby.specs.declared.waiting.Passed.TheVariants.{On, Begun}
use Rattle.journal.specs.declared.entry.Entry.TheVariants.{Begins, Continues, Event, Turn, Taken, Bad}

-- what isn't taken yet: the events of a turn, of which the next mark says whether their changes are on record, and how many
-- are if so; and the events and the bytes of the lines behind its mark
pub record Pending : Type 0 where
  pub held : List HubEvent
  pub after : ℕ
  pub events : List HubEvent
  pub lines : List ℕ

-- none waits, with that count of changes on record
abbrev pub none_waits : ℕ → Pending
none_waits changes = record { held = []; after = changes; events = []; lines = [] }

-- the events that are held, by the count of changes that a mark gives
abbrev pub confirmed : Pending → ℕ → List HubEvent
confirmed w changes = if changes == w.after then w.held else []

-- those that are taken as the mark of a turn is read: a turn that changes nothing needs no other mark
abbrev pub taken_at_turn : Pending → ℕ → ℕ → List HubEvent
taken_at_turn w before after = confirmed w before ++ (if before == after then w.events else [])

abbrev pub waiting_at_turn : Pending → ℕ → ℕ → Pending
waiting_at_turn w before after = if before == after then none_waits after else record { held = w.events; after = after; events = []; lines = [] }

-- the events that are taken as an entry is read
abbrev pub taken_here : Pending → Entry → List HubEvent
taken_here w (Event e) = []
taken_here w (Turn events before after digest) = if ends_turn (length w.events) w.lines events digest then taken_at_turn w before after else []
taken_here w (Taken first events changes) = w.held ++ take first w.events
taken_here w (Begins changes operators) = confirmed w changes
taken_here w (Continues file changes operators) = confirmed w changes
taken_here w Bad = []

-- what waits then; none where another server begins, or where a mark isn't that of the lines before it: nothing more is taken
abbrev pub waiting_after : Pending → List ℕ → Entry → Option Pending
waiting_after w line (Event e) = Some (record w { events = w.events ++ (e ∷ []); lines = w.lines ++ (line ++ (10 ∷ [])) })
waiting_after w line (Turn events before after digest) = if ends_turn (length w.events) w.lines events digest then Some (waiting_at_turn w before after) else None
waiting_after w line (Taken first events changes) = Some (none_waits changes)
waiting_after w line (Begins changes operators) = None
waiting_after w line (Continues file changes operators) = Some (none_waits changes)
waiting_after w line Bad = Some (record w { lines = w.lines ++ (line ++ (10 ∷ [])) })

-- the events that were taken, up to where another server begins; those that are held at the end may have been told
unfoldable pub taken_of : (List ℕ → Bool) → Pending → List (List ℕ) → List HubEvent
taken_of is_hosted w [] = w.held
taken_of is_hosted w (line ∷ rest) =
    taken_here w (entry_of is_hosted line) ++ elim (waiting_after w line (entry_of is_hosted line)) [ Some v ↦ taken_of is_hosted v rest | None ↦ [] ]

abbrev pub taken_in : (List ℕ → Bool) → ℕ → List ℕ → List HubEvent
taken_in is_hosted changes bytes = taken_of is_hosted (none_waits changes) (lines_of bytes)

-- what waits, of a follower
abbrev pub pending_of : Waiting → Pending
pending_of w = record { held = w.held.items; after = w.after; events = w.events.items; lines = w.lines.items }

-- what a mark or another line leaves waiting
abbrev pub PassesTo : Passed → Option Pending → Pending → Type 0
PassesTo (On changes) next w = next ≡ Some w
PassesTo (Begun changes operators) next w = next ≡ None

-- the next line of what a reader has left, without its line feed
abbrev pub IsNext : List ℕ → Option (List ℕ) → Option (List ℕ) → Type 0
IsNext bytes None left = lines_of bytes ≡ []
IsNext bytes (Some line) None = ⊥
IsNext bytes (Some line) (Some rest) = lines_of bytes ≡ line ∷ lines_of rest

abbrev pub Reads : Option (List ℕ) → Option (List ℕ) → Option (List ℕ) → Type 0
Reads None next left = Unit {0}
Reads (Some bytes) next left = IsNext bytes next left

-- the world after the first of some events
pub record IsReached (st : Setting) (w : World) (all : List HubEvent) (v : World) : Type 0 where
  pub done : List HubEvent
  pub more : List HubEvent
  pub is : v ≡ world_run st w done
  pub all_of : done ++ more ≡ all
