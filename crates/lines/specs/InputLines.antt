-- What a line of input says.
use Rattle.std.specs.Prelude.{codes, ℕ, nat_lt, ◌==◌, Bool, List, length, Option, Some, None, if◌then◌else◌}
use Rattle.std.specs.Io.BufRead.{strip_last}
use Rattle.std.specs.Str.{bytes_eq}
use Rattle.std.specs.Str.Lossy.{utf8_valid_len}
use Rattle.hub_events.specs.declared.event.Event.{Event}
use Rattle.hub_events.specs.declared.event.Event.TheVariants as event
use Rattle.lines.specs.declared.input_line.TheConstants.{MAX_LINE}
use Rattle.lines.specs.Forms.{what_of}
use Rattle.lines.specs.Words.{first_word, moment_at, ◌>>=◌}
use Rattle.lines.specs.declared.input_line.Line.{Line}
use Rattle.lines.specs.declared.input_line.Line.TheVariants as line

-- `OP ..` of a hosted operator
abbrev pub operator_event : (List ℕ → Bool) → ℕ → List ℕ → Option Event
operator_event is_hosted m rest = do
  op ← first_word rest
  if is_hosted op.0 then (what_of op.1 >>= λ w. Some (event.At op.0 m w)) else None

-- `MOMENT * tick`, or `MOMENT OP ..` of a hosted operator
unfoldable pub event_of : (List ℕ → Bool) → List ℕ → Option Event
event_of is_hosted text = do
  first ← first_word text
  moment ← moment_at first.0
  if bytes_eq first.1 (codes "* tick") then Some (event.Tick moment) else operator_event is_hosted moment first.1

-- an event, or a bad line
abbrev pub event_or_bad : Option Event → Line
event_or_bad (Some e) = line.Event e
event_or_bad None = line.Bad

abbrev pub is_utf8 : List ℕ → Bool
is_utf8 bytes = utf8_valid_len bytes == length bytes

-- what a line that isn't too long says, without its carriage return
abbrev pub spelled_text : (List ℕ → Bool) → List ℕ → Line
spelled_text is_hosted text = if length text == 0 then line.Nothing else if is_utf8 text then event_or_bad (event_of is_hosted text) else line.Bad

-- what a line says where those operators are hosted, by its bytes without the line feed
unfoldable pub spelled : (List ℕ → Bool) → List ℕ → Line
spelled is_hosted bytes = if nat_lt MAX_LINE (length bytes) then line.Bad else spelled_text is_hosted (strip_last 13 bytes)
