-- What the text of an operator's connection says.
use Rattle.std.specs.Prelude.{ℕ, nat_lt, ◌==◌, Bool, true, false, ◌||◌, List, length, Option, Some, None, if◌then◌else◌}
use Rattle.std.specs.Io.BufRead.{strip_last}
use Rattle.std.specs.List.{position_or_len}
use Rattle.hub_events.specs.declared.event.Event.{Event}
use Rattle.hub_events.specs.declared.event.Event.TheVariants as event
use Rattle.hub_events.specs.declared.event.What.{What}
use Rattle.hub_events.specs.declared.event.What.TheVariants.{Connect, Disconnect, Frame, Do, Admin, List as Listing, Connections, DropStation, Forget}
use Rattle.lines.specs.declared.input_line.TheConstants.{MAX_LINE}
use Rattle.lines.specs.Forms.{what_of}
use Rattle.lines.specs.Words.{◌>>=◌}

-- connections and frames are a station's, and no orders of an operator
abbrev pub is_order : What → Bool
is_order (Connect station) = false
is_order (Disconnect station) = false
is_order (Frame station text) = false
is_order (Do station command) = true
is_order (Admin admin) = true
is_order (Listing listing) = true
is_order Connections = true
is_order (DropStation station) = true
is_order (Forget station until ends) = true

abbrev pub has_line_feed : List ℕ → Bool
has_line_feed text = nat_lt (position_or_len (λ byte. byte == 10) text) (length text)

-- the order of operator `op` at moment m that a line says after `MOMENT OP`
abbrev pub order_in : List ℕ → ℕ → List ℕ → Option Event
order_in op m text = do
  what ← what_of text
  if is_order what then Some (event.At op m what) else None

-- the same of a text, which is one line with or without a carriage return
unfoldable pub order_of : List ℕ → ℕ → List ℕ → Option Event
order_of op m text = if nat_lt MAX_LINE (length text) || has_line_feed text then None else order_in op m (strip_last 13 text)
