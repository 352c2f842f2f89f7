-- What a line of a journal says.
use Rattle.std.specs.Prelude.{ℕ, Bool, List, ◌++◌, ◌<◌, ◌^◌, codes, Option, Some, None, if◌then◌else◌}
use Rattle.std.specs.Fmt.{decimal}
use Rattle.std.specs.Str.{bytes_eq}
use Rattle.hub_events.specs.declared.event.Event.{Event as HubEvent}
use Rattle.hex.specs.Hex.{encode_lower}
use Rattle.sha1.specs.Sha1.{sha1}
use Rattle.lines.specs.InputLines.{event_of, is_utf8}
use Rattle.lines.specs.Words.{first_word, ◌>>=◌}
use Rattle.ocpp_types.specs.Digits.{number_of_digits}
use Rattle.journal.specs.declared.entry.Entry.{Entry}
use Rattle.journal.specs.declared.entry.Entry.TheVariants.{Begins, Continues, Event, Turn, Taken, Bad}

-- a count, in 1 to 19 decimal digits
abbrev pub count_of : List ℕ → Option ℕ
count_of text = number_of_digits 19 text

-- `begins CHANGES OPERATORS`
abbrev pub begins_form : List ℕ → Option Entry
begins_form rest = do
  changes ← first_word rest
  count ← count_of changes.0
  Some (Begins count changes.1)

-- `continues FILE CHANGES OPERATORS`
abbrev pub continues_form : List ℕ → Option Entry
continues_form rest = do
  file ← first_word rest
  changes ← first_word file.1
  number ← count_of file.0
  count ← count_of changes.0
  Some (Continues number count changes.1)

-- `turn EVENTS BEFORE AFTER DIGEST`
abbrev pub turn_form : List ℕ → Option Entry
turn_form rest = do
  events ← first_word rest
  before ← first_word events.1
  after ← first_word before.1
  number ← count_of events.0
  old ← count_of before.0
  new ← count_of after.0
  Some (Turn number old new after.1)

-- `taken TAKEN EVENTS CHANGES`, which earlier versions wrote
abbrev pub taken_form : List ℕ → Option Entry
taken_form rest = do
  taken ← first_word rest
  events ← first_word taken.1
  first ← count_of taken.0
  all ← count_of events.0
  changes ← count_of events.1
  Some (Taken first all changes)

-- the form that the first word names
abbrev pub form_of : List ℕ → List ℕ → Option Entry
form_of word rest =
    if bytes_eq word (codes "begins") then begins_form rest
    else (if bytes_eq word (codes "continues") then continues_form rest
    else (if bytes_eq word (codes "turn") then turn_form rest else (if bytes_eq word (codes "taken") then taken_form rest else None)))

abbrev pub mark_in : List ℕ → Option Entry
mark_in text = do
  word ← first_word text
  form_of word.0 word.1

-- a line of input, or one of these forms
abbrev pub event_or : Option HubEvent → Option Entry → Entry
event_or (Some event) mark = Event event
event_or None (Some mark) = mark
event_or None None = Bad

abbrev pub entry_in : (List ℕ → Bool) → List ℕ → Entry
entry_in is_hosted text = event_or (event_of is_hosted text) (mark_in text)

-- what a line says, by its bytes without the line feed
unfoldable pub entry_of : (List ℕ → Bool) → List ℕ → Entry
entry_of is_hosted bytes = if is_utf8 bytes then entry_in is_hosted bytes else Bad

-- the lines of the marks
abbrev pub begins_line : ℕ → List ℕ → List ℕ
begins_line changes operators = codes "begins " ++ (decimal changes ++ (codes " " ++ operators))

abbrev pub continues_line : ℕ → ℕ → List ℕ → List ℕ
continues_line file changes operators = codes "continues " ++ (decimal file ++ (codes " " ++ (decimal changes ++ (codes " " ++ operators))))

abbrev pub turn_line : ℕ → ℕ → ℕ → List ℕ → List ℕ
turn_line events before after digest =
    codes "turn " ++ (decimal events ++ (codes " " ++ (decimal before ++ (codes " " ++ (decimal after ++ (codes " " ++ digest))))))

-- the digest of lines with their line feeds
unfoldable pub digest_of : List ℕ → List ℕ
digest_of lines = encode_lower (sha1 lines)

-- a count that can stand in a mark
abbrev pub IsCount : ℕ → Type 0
IsCount n = n < 10 ^ 19

pub record AreCounts (events before after : ℕ) : Type 0 where
  pub number : IsCount events
  pub old : IsCount before
  pub new : IsCount after
