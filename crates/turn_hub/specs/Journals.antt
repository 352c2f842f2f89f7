-- What the journal of a hub that takes events in turns has.
use Rattle.std.specs.Prelude.{◌≡◌, ◌⊎◌, ℕ, ◌+◌, ◌≤◌, Bool, true, false, List, [], ◌∷◌, ◌++◌, Option, Some, None}
use Rattle.hub_events.specs.declared.event.Event.{Event}
use Rattle.hub_events.specs.declared.out.Out.{Out}
use Rattle.hub.specs.World.{is_idle}
use Rattle.journal.specs.Entries.{IsCount}
use Rattle.journal.specs.Writers.{HasTurn, IsHandling, IsOpen, Says}
use Rattle.journal.specs.declared.writer.Writer.{Writer}
use Rattle.turn_hub.specs.declared.turn_hub.TurnHub.{TurnHub}

-- the events of a journal after an event that was taken: a tick at which no call ends may have none
abbrev pub Notes : List Event → Event → List Out → List Event → Type 0
Notes events event outs after = (after ≡ events ++ (event ∷ [])) ⊎ ((is_idle event outs ≡ true) × (after ≡ events))

module _ {W : Type 0} (contents : W → Option (List ℕ)) (is_hosted : List ℕ → Bool) where
  -- some events are in its file, and the lines of those since then are ready
  pub record HasEvents (writer : Writer W) (on_record : ℕ) (events : List Event) : Type 0 where
    pub taken : List Event
    pub now : List Event
    pub was : IsOpen contents is_hosted writer taken now
    pub all : taken ++ now ≡ events
    pub same : writer.changes ≡ on_record

  -- and one more is handled, whose line is ready
  pub record Handles (writer : Writer W) (on_record : ℕ) (events : List Event) (event : Event) : Type 0 where
    pub taken : List Event
    pub now : List Event
    pub was : IsHandling contents is_hosted writer taken now event
    pub all : taken ++ now ≡ events
    pub same : writer.changes ≡ on_record

  -- and one more is handled, which is in the file ahead of its change
  pub record IsAhead (writer : Writer W) (on_record : ℕ) (events : List Event) (event : Event) : Type 0 where
    pub turn : HasTurn contents is_hosted writer (on_record + 1) events (event ∷ [])
    pub same : writer.changes ≡ on_record

  abbrev pub HasBegun : Bool → Writer W → ℕ → List Event → Event → Type 0
  HasBegun true writer on_record events event = IsAhead writer on_record events event
  HasBegun false writer on_record events event = Handles writer on_record events event

  -- all are in its file
  pub record HasWritten (writer : Writer W) (on_record : ℕ) (events : List Event) : Type 0 where
    pub was : IsOpen contents is_hosted writer events []
    pub same : writer.changes ≡ on_record

  -- they are, and those of the last turn count if that count of changes is on record
  pub record HasEntry (writer : Writer W) (after : ℕ) (events : List Event) : Type 0 where
    pub taken : List Event
    pub now : List Event
    pub turn : HasTurn contents is_hosted writer after taken now
    pub all : taken ++ now ≡ events

-- of a journal, if there is one, as long as it can be written
abbrev pub OfJournal : {W : Type 0} → (Writer W → Type 0) → Option (Writer W) → Type 0
OfJournal P None = Unit {0}
OfJournal P (Some writer) = writer.has_failed ≡ false → P writer

module _ {S V W : Type 0} (contents : W → Option (List ℕ)) (is_hosted : List ℕ → Bool) where
  -- the journal of a hub has those events, in its file or ready for it
  abbrev pub Journals : TurnHub S V W → List Event → Type 0
  Journals h events = OfJournal (λ writer. HasEvents contents is_hosted writer h.on_record events) h.journal

  abbrev pub BeginsLine : Bool → TurnHub S V W → List Event → Event → Type 0
  BeginsLine ahead h events event = OfJournal (λ writer. HasBegun contents is_hosted ahead writer h.on_record events event) h.journal

  -- in its file
  abbrev pub HasJournaled : TurnHub S V W → List Event → Type 0
  HasJournaled h events = OfJournal (λ writer. HasWritten contents is_hosted writer h.on_record events) h.journal

  -- in its file, as ones that count if all changes that were made are on record
  abbrev pub JournalsFirst : TurnHub S V W → List Event → Type 0
  JournalsFirst h events = OfJournal (λ writer. HasEntry contents is_hosted writer h.changes events) h.journal

  -- with the changes that are on record, its file says that those events were taken
  abbrev pub JournalSays : TurnHub S V W → List Event → Type 0
  JournalSays h events = OfJournal (λ writer. Says contents is_hosted writer events × (writer.changes ≡ h.on_record)) h.journal

abbrev pub events_of : {W : Type 0} → Option (Writer W) → ℕ
events_of None = 0
events_of (Some writer) = writer.events

-- its counts, and those after one more event, can stand in a mark
pub record AreSmall {S V W : Type 0} (h : TurnHub S V W) : Type 0 where
  pub events : IsCount (events_of h.journal + 1)
  pub changes : IsCount (h.changes + 1)
  pub on_record : IsCount (h.on_record + 1)

-- the counts of a hub are n + 1 at most
pub record AreUpTo {S V W : Type 0} (n : ℕ) (h : TurnHub S V W) : Type 0 where
  pub events : events_of h.journal ≤ n + 1
  pub changes : h.changes ≤ n + 1
  pub on_record : h.on_record ≤ n + 1

-- they grow by no more than that
abbrev pub Counts : {S V W : Type 0} → ℕ → TurnHub S V W → TurnHub S V W → Type 0
Counts more old new = (n : ℕ) → AreUpTo n old → AreUpTo (more + n) new

-- the journal and its counts stay
pub record HasSameJournal {S V W : Type 0} (old new : TurnHub S V W) : Type 0 where
  pub journal : new.journal ≡ old.journal
  pub changes : new.changes ≡ old.changes
  pub on_record : new.on_record ≡ old.on_record
