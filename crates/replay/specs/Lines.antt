-- The lines of an input that are still to come.
use Rattle.std.specs.Prelude.{◌≡◌, ℕ, ◌+◌, ◌-◌, Bool, true, false, List, [], ◌∷◌, ◌++◌, Option, Some, None, drop, if◌then◌else◌, vec_len}
use Rattle.replay.specs.Held.{lines_of}
use Rattle.replay.specs.declared.input_lines.Lines.{Lines}

-- the bytes that were read and not handed out
abbrev pub unread : Lines → List ℕ
unread l = drop l.start l.buffer.items

-- the lines to come, of bytes that were read and of what a reader has left
abbrev pub lines_from : Bool → List ℕ → Option (List ℕ) → Option (List (List ℕ))
lines_from ended bytes None = None
lines_from true bytes (Some rest) = Some []
lines_from false bytes (Some rest) = Some (lines_of (bytes ++ rest))

abbrev pub to_come : Lines → Option (List ℕ) → Option (List (List ℕ))
to_come l remaining = lines_from l.ended (unread l) remaining

-- the first of the lines to come has been handed out
abbrev pub HandsOut : Option (List (List ℕ)) → Option (List (List ℕ)) → (List ℕ → Type 0) → Type 0
HandsOut None new P = Unit {0}
HandsOut (Some lines) None P = ⊥
HandsOut (Some lines) (Some rest) P = (line : List ℕ) × (lines ≡ line ∷ rest) × P line

-- no line is to come
abbrev pub IsDone : Option (List (List ℕ)) → Type 0
IsDone None = Unit {0}
IsDone (Some lines) = lines ≡ []

-- the most turns that are to come: bytes to read, bytes that were read, and the end
abbrev pub most_turns : Lines → ℕ
most_turns l = l.left + (vec_len l.buffer - l.start) + (if l.ended then 0 else 1)
