-- A writer of a journal, over a file whose bytes are known.
use Rattle.std.specs.Prelude.{◌≡◌, ◌≢◌, ◌<◌, ℕ, Bool, true, List, [], ◌∷◌, ◌++◌, length, take, Option, Some}
use Rattle.hub_events.specs.declared.event.Event.{Event as HubEvent}
use Rattle.journal.specs.Entries.{entry_of}
use Rattle.journal.specs.Journals.{is_whole, lines_of, AddsLine}
use Rattle.journal.specs.Stops.{found_of, told_at, Survives}
use Rattle.journal.specs.declared.entry.Entry.{Entry}
use Rattle.journal.specs.declared.entry.Entry.TheVariants.{Event}
use Rattle.journal.specs.declared.writer.Writer.{Writer}

-- bytes that end in a mark, or are none
pub record IsMarked (is_hosted : List ℕ → Bool) (file : List ℕ) : Type 0 where
  pub whole : is_whole file ≡ true
  pub waiting : (found_of is_hosted file).waiting ≡ []
  pub lines : (found_of is_hosted file).lines ≡ []

-- lines that aren't written yet are those of the events `now` of a turn; whatever is left of them, the events that were taken
-- are those before the turn
pub record Waits (is_hosted : List ℕ → Bool) (file bytes : List ℕ) (changes : ℕ) (taken now : List HubEvent) : Type 0 where
  pub behind : IsMarked is_hosted file
  pub whole : is_whole (file ++ bytes) ≡ true
  pub survives : Survives is_hosted file bytes changes taken
  pub waiting : (found_of is_hosted (file ++ bytes)).waiting ≡ now
  pub lines : (found_of is_hosted (file ++ bytes)).lines ≡ bytes

-- between two events
pub record IsOpen {W : Type 0} (contents : W → Option (List ℕ)) (is_hosted : List ℕ → Bool) (writer : Writer W) (taken now : List HubEvent) : Type 0 where
  pub file : List ℕ
  pub known : contents writer.file ≡ Some file
  pub waits : Waits is_hosted file writer.lines.bytes.items writer.changes taken now
  pub number : writer.events ≡ length now

-- an event is handled, of which a line is ready
pub record IsHandling {W : Type 0} (contents : W → Option (List ℕ)) (is_hosted : List ℕ → Bool) (writer : Writer W) (taken now : List HubEvent) (event : HubEvent) : Type 0 where
  pub was : IsOpen contents is_hosted writer taken now
  pub line : AddsLine is_hosted (Event event) [] writer.current.bytes.items

-- with the count after the turn on record, those bytes say that its events were taken too; with the count before it, those
-- before it alone
pub record SaysTurn (is_hosted : List ℕ → Bool) (bytes : List ℕ) (before after : ℕ) (taken now : List HubEvent) : Type 0 where
  pub told : told_at is_hosted bytes after ≡ Some (taken ++ now)
  pub refused : after ≢ before → told_at is_hosted bytes before ≡ Some taken

-- a turn is in the file
pub record HasTurn {W : Type 0} (contents : W → Option (List ℕ)) (is_hosted : List ℕ → Bool) (writer : Writer W) (after : ℕ) (taken now : List HubEvent) : Type 0 where
  pub file : List ℕ
  pub known : contents writer.file ≡ Some file
  pub says : SaysTurn is_hosted file writer.changes after taken now
  pub marked : IsMarked is_hosted file
  pub none : writer.events ≡ 0
  pub empty : writer.lines.bytes.items ≡ []

-- a turn was written behind known bytes; a part of it says nothing
pub record WroteTurn (is_hosted : List ℕ → Bool) (old new : Option (List ℕ)) (before after : ℕ) (taken now : List HubEvent) : Type 0 where
  pub file : List ℕ
  pub added : List ℕ
  pub was : old ≡ Some file
  pub is : new ≡ Some (file ++ added)
  pub part : (n : ℕ) → n < length added → told_at is_hosted (file ++ take n added) before ≡ Some taken
  pub all : SaysTurn is_hosted (file ++ added) before after taken now

-- what was written behind known bytes, of which a stop may leave a part
pub record Wrote (is_hosted : List ℕ → Bool) (old new : Option (List ℕ)) (changes : ℕ) (taken : List HubEvent) : Type 0 where
  pub file : List ℕ
  pub added : List ℕ
  pub was : old ≡ Some file
  pub is : new ≡ Some (file ++ added)
  pub survives : Survives is_hosted file added changes taken

-- with the changes that are on record, the file says that those events were taken
pub record Says {W : Type 0} (contents : W → Option (List ℕ)) (is_hosted : List ℕ → Bool) (writer : Writer W) (taken : List HubEvent) : Type 0 where
  pub file : List ℕ
  pub known : contents writer.file ≡ Some file
  pub whole : is_whole file ≡ true
  pub told : told_at is_hosted file writer.changes ≡ Some taken

-- the file before says so at its end
pub record EndsTold (is_hosted : List ℕ → Bool) (old : Option (List ℕ)) (changes : ℕ) (taken now : List HubEvent) : Type 0 where
  pub end : List ℕ
  pub wrote : WroteTurn is_hosted old (Some end) changes changes taken now

-- each line of a file is ended now, and it says the same
pub record IsEnded (is_hosted : List ℕ → Bool) (file : List ℕ) (new : Option (List ℕ)) (changes : ℕ) (taken : List HubEvent) : Type 0 where
  pub added : List ℕ
  pub is : new ≡ Some (file ++ added)
  pub survives : Survives is_hosted file added changes taken
  pub whole : is_whole (file ++ added) ≡ true
  pub told : told_at is_hosted (file ++ added) changes ≡ Some taken

-- the last entry of a file
pub record EndsWith (is_hosted : List ℕ → Bool) (entry : Entry) (file : Option (List ℕ)) : Type 0 where
  pub bytes : List ℕ
  pub known : file ≡ Some bytes
  pub before : List (List ℕ)
  pub line : List ℕ
  pub last : lines_of bytes ≡ before ++ (line ∷ [])
  pub says : entry_of is_hosted line ≡ entry
