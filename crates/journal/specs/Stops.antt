-- What a stop leaves of a journal.
use Rattle.std.specs.Prelude.{◌≡◌, ℕ, ◌==◌, Bool, List, [], ◌∷◌, ◌++◌, length, take, Option, Some, None, if◌then◌else◌}
use Rattle.hub_events.specs.declared.event.Event.{Event as HubEvent}
use Rattle.journal.specs.Entries.{entry_of}
use Rattle.journal.specs.Journals.{lines_of}
use Rattle.journal.specs.Tails.{ends_turn, fits}
use Rattle.journal.specs.declared.entry.Entry.{Entry}
use Rattle.journal.specs.declared.entry.Entry.TheVariants.{Begins, Continues, Event, Turn, Taken, Bad}
use Rattle.journal.specs.declared.tail.TurnCounts.{TurnCounts}

-- what lines say: the events that were taken, those of the last turn, which were taken if as many changes are on record as
-- it says, and behind the last mark the events and the bytes of the lines
pub record Found : Type 0 where
  pub taken : List HubEvent
  pub held : List HubEvent
  pub counts : Option TurnCounts
  pub waiting : List HubEvent
  pub lines : List ℕ

-- the events that were taken, by the count of changes on record
abbrev pub taken_with : List HubEvent → List HubEvent → Option TurnCounts → ℕ → List HubEvent
taken_with taken held None changes = taken
taken_with taken held (Some counts) changes = if changes == counts.after then taken ++ held else taken

abbrev pub taken_where : Found → ℕ → List HubEvent
taken_where found changes = taken_with found.taken found.held found.counts changes

-- a mark with that count of changes
abbrev pub marked : Found → ℕ → Found
marked found changes =
    record { taken = taken_where found changes; held = []; counts = Some (record { before = changes; after = changes }); waiting = []; lines = [] }

-- the mark that ends a turn; where it isn't that of the lines before it, these say nothing
abbrev pub found_turn : Found → ℕ → ℕ → Bool → Found
found_turn found before after ends =
    if ends then record { taken = taken_where found before; held = found.waiting; counts = Some (record { before = before; after = after }); waiting = []; lines = [] }
    else record found { waiting = []; lines = [] }

-- one line more
abbrev pub found_by : Found → List ℕ → Entry → Found
found_by found line (Event e) = record found { waiting = found.waiting ++ (e ∷ []); lines = found.lines ++ (line ++ (10 ∷ [])) }
found_by found line (Turn events before after digest) = found_turn found before after (ends_turn (length found.waiting) found.lines events digest)
found_by found line (Taken first events changes) =
    record { taken = found.taken ++ (found.held ++ take first found.waiting); held = []; counts = Some (record { before = changes; after = changes }); waiting = []; lines = [] }
found_by found line (Begins changes operators) = marked found changes
found_by found line (Continues file changes operators) = marked found changes
found_by found line Bad = record found { lines = found.lines ++ (line ++ (10 ∷ [])) }

abbrev pub found_after : (List ℕ → Bool) → Found → List ℕ → Found
found_after is_hosted found line = found_by found line (entry_of is_hosted line)

unfoldable pub found_from : (List ℕ → Bool) → Found → List (List ℕ) → Found
found_from is_hosted found [] = found
found_from is_hosted found (line ∷ rest) = found_from is_hosted (found_after is_hosted found line) rest

abbrev pub found_of : (List ℕ → Bool) → List ℕ → Found
found_of is_hosted bytes = found_from is_hosted (record { taken = []; held = []; counts = None; waiting = []; lines = [] }) (lines_of bytes)

-- the events that a journal of those bytes says were taken, by the count of changes on record; `None` where the count
-- doesn't fit the journal
abbrev pub told_by : Found → ℕ → Option (List HubEvent)
told_by found changes = if fits found.counts changes then Some (taken_where found changes) else None

abbrev pub told_at : (List ℕ → Bool) → List ℕ → ℕ → Option (List HubEvent)
told_at is_hosted bytes changes = told_by (found_of is_hosted bytes) changes

-- with that count of changes on record, a journal says that those events were taken, whatever part of the bytes to append
-- a stop leaves
abbrev pub Survives : (List ℕ → Bool) → List ℕ → List ℕ → ℕ → List HubEvent → Type 0
Survives is_hosted file bytes changes taken = (n : ℕ) → told_at is_hosted (file ++ take n bytes) changes ≡ Some taken
