-- The word of an order, by which its sender tells the answer to it from all else.
use Rattle.std.specs.Prelude.{ℕ, ◌==◌, ◌++◌, List, [], ◌∷◌, codes, Option, Some, None, if◌then◌else◌}
use Rattle.hub_rows.specs.Operators.{is_operator_name}
use Rattle.lines.specs.Words.{first_word, ◌>>=◌}

-- what follows the `#` with which a text begins
abbrev pub after_sign : List ℕ → Option (List ℕ)
after_sign [] = None
after_sign (byte ∷ rest) = if byte == 35 then Some rest else None

-- the word and the order of `#WORD ORDER`, a word of the form of an operator's name
abbrev pub mark_of : List ℕ → Option (List ℕ × List ℕ)
mark_of text = do
  marked ← after_sign text
  mark ← first_word marked
  if is_operator_name mark.0 then Some mark else None

-- the line before the answer to an order with a word
abbrev pub begin_line : List ℕ → List ℕ
begin_line word = codes "#" ++ (word ++ codes " begin")

-- the line after it
abbrev pub end_line : List ℕ → List ℕ
end_line word = codes "#" ++ (word ++ codes " end")
