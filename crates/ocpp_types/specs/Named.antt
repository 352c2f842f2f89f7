-- Values that have names.
use Rattle.std.specs.Prelude.{ℕ, List, [], ◌∷◌, Option, Some, None, if◌then◌else◌, nat_eq}
use Rattle.std.specs.Cmp.Lexicographic.{pointwise}

-- the value of a name, by a table of names and values
abbrev pub named : {A : Type 0} → List (List ℕ × A) → List ℕ → Option A
named [] text = None
named (row ∷ rows) text = if pointwise nat_eq text row.0 then Some row.1 else named rows text

-- the table of values under their own names
abbrev pub names_of : {A : Type 0} → (A → List ℕ) → List A → List (List ℕ × A)
names_of name [] = []
names_of name (value ∷ values) = (name value, value) ∷ names_of name values
