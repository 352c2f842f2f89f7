-- Texts, as their bytes.
use Rattle.std.specs.Prelude.{ℕ, List, length}
use Rattle.std.specs.Str.{chars}

-- how many characters a text has
abbrev pub characters : List ℕ → ℕ
characters text = length (chars text)
