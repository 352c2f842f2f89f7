-- A line of an input, and how much of it is held.
use Rattle.lines.specs.declared.input_line.TheConstants.{MAX_LINE}
use Rattle.lines.specs.Journal.{is_feed}
use Rattle.std.specs.Prelude.{◌≡◌, ℕ, ◌+◌, ◌<◌, Bool, true, false, List, Option, Some, None, All, length}
use Rattle.std.specs.Borrow.{Bor}
use Rattle.std.specs.Io.KnownBytes.{Consumes}
use Rattle.std.specs.List.{slice_split}

-- the lines of an input: the bytes before each line feed, and those after the last
abbrev pub lines_of : List ℕ → List (List ℕ)
lines_of input = slice_split is_feed input

abbrev pub HasNoFeed : List ℕ → Type 0
HasNoFeed bytes = All (λ b. is_feed b ≡ false) bytes

-- the line is held, or it is longer than 1,048,576 bytes
abbrev pub IsHeld : Bool → List ℕ → List ℕ → Type 0
IsHeld true held line = MAX_LINE < length line
IsHeld false held line = held ≡ line

-- the same, of what is handed out
abbrev pub IsLine : Option (Bor (List ℕ)) → List ℕ → Type 0
IsLine None line = MAX_LINE < length line
IsLine (Some held) line = held.now ≡ line

-- bytes of an input have been read, of those that may be read
pub record Reads (old new : Option (List ℕ)) (before after : ℕ) : Type 0 where
  pub bytes : List ℕ
  pub consumes : Consumes old new bytes
  pub count : length bytes + after ≡ before
