-- Lines of a journal: an event as a line of input that says it.
use Rattle.std.specs.Prelude.{ℕ, ◌≡◌, nat_lt, ◌==◌, Bool, true, false, not, ◌&&◌, ◌||◌, List, length, ◌++◌, codes, Some, if◌then◌else◌}
use Rattle.std.specs.Fmt.{decimal}
use Rattle.std.specs.Io.BufRead.{strip_last}
use Rattle.std.specs.List.{list_any}
use Rattle.hub_events.specs.declared.event.Event.{Event}
use Rattle.hub_events.specs.declared.event.Event.TheVariants.{At, Tick}
use Rattle.hub_events.specs.declared.event.What.{What}
use Rattle.hub_events.specs.declared.event.What.TheVariants.{Connect, Disconnect, Frame}
use Rattle.hub_rows.specs.Operators.{is_operator_name}
use Rattle.lines.specs.InputLines.{event_of}
use Rattle.lines.specs.Orders.{order_of}
use Rattle.lines.specs.RowLines.{quoted}

-- a line feed
abbrev pub is_feed : ℕ → Bool
is_feed byte = byte == 10

-- a line feed or a carriage return
abbrev pub is_break : ℕ → Bool
is_break byte = is_feed byte || byte == 13

abbrev pub has_break : List ℕ → Bool
has_break = list_any is_break

-- a name that can stand in a line: it isn't empty, and has no space and no break
abbrev pub is_gap : ℕ → Bool
is_gap byte = byte == 32 || is_break byte

abbrev pub is_plain : List ℕ → Bool
is_plain name = nat_lt 0 (length name) && not (list_any is_gap name)

-- the text of a station, quoted where it has a break
abbrev pub frame_text : List ℕ → List ℕ → List ℕ
frame_text station text =
    if has_break text then codes "quoted " ++ (station ++ (codes " " ++ quoted text))
    else codes "frame " ++ (station ++ (codes " " ++ text))

-- what follows `MOMENT OP`: of an order the text that was sent, without its word and without a carriage return at its end
abbrev pub what_text : What → List ℕ → List ℕ
what_text (Connect station) order = codes "connect " ++ station
what_text (Disconnect station) order = codes "disconnect " ++ station
what_text (Frame station text) order = frame_text station text
what_text what order = strip_last 13 order

-- the line of an event
abbrev pub journal_line : Event → List ℕ → List ℕ
journal_line (Tick moment) order = decimal moment ++ codes " * tick"
journal_line (At op moment what) order = decimal moment ++ (codes " " ++ (op ++ (codes " " ++ what_text what order)))

-- whether that text says what happens: the names are plain, and an order is that of its text
abbrev pub Says : What → List ℕ → ℕ → List ℕ → Type 0
Says (Connect station) op moment order = is_plain station ≡ true
Says (Disconnect station) op moment order = is_plain station ≡ true
Says (Frame station text) op moment order = is_plain station ≡ true
Says what op moment order = order_of op moment order ≡ Some (At op moment what)

-- whether an event at an operator can stand in a journal where those operators are hosted
pub record StandsAt (is_hosted : List ℕ → Bool) (op : List ℕ) (moment : ℕ) (what : What) (order : List ℕ) : Type 0 where
  pub hosted : is_hosted op ≡ true
  pub name : is_operator_name op ≡ true
  pub says : Says what op moment order

abbrev pub Stands : (List ℕ → Bool) → Event → List ℕ → Type 0
Stands is_hosted (Tick moment) order = Unit {0}
Stands is_hosted (At op moment what) order = StandsAt is_hosted op moment what order

-- the line is read as the event
abbrev pub IsReadBack : Event → List ℕ → List ℕ → Type 0
IsReadBack event order line = (is_hosted : List ℕ → Bool) → Stands is_hosted event order → event_of is_hosted line ≡ Some event

-- it is one line
abbrev pub IsOneLine : Event → List ℕ → List ℕ → Type 0
IsOneLine event order line = (is_hosted : List ℕ → Bool) → Stands is_hosted event order → list_any is_feed line ≡ false
