-- Pieces of the text of an answer.
use Rattle.std.specs.Prelude.{ℕ, List, [], ◌∷◌, ◌++◌, Option, Some, None}
use Rattle.json.specs.Print.{quoted}
use Rattle.serde_json.specs.Data.{Data}
use Rattle.serde_json.specs.Written.{compact_text}

-- a member that may be left out, with the comma to the next one
abbrev pub before_next : List ℕ → Option Data → List ℕ
before_next name None = []
before_next name (Some d) = quoted name ++ 58 ∷ (compact_text d ++ 44 ∷ [])
