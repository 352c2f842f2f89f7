-- What is read in place of a name.
use Rattle.std.specs.Prelude.{ℕ, ◌==◌, ◌&&◌, not, List, [], ◌∷◌, map, length, Bool, true, false, if◌then◌else◌, Option, Some, None, unwrap_or, bytes_eq}
use Rattle.std.specs.Char.{to_ascii_lowercase}
use Rattle.std.specs.Option.{is_none}
use Rattle.std.specs.Str.{trim}
use Rattle.json.specs.Json.{Json, null, boolean, number, string, array, object}

-- the names of a table
abbrev pub names : {A : Type 0} → List (List ℕ × A) → List (List ℕ)
names table = map (λ row. row.0) table

-- the texts are the same but for the case of ASCII letters
abbrev pub same_letters : List ℕ → List ℕ → Bool
same_letters a b = bytes_eq (map to_ascii_lowercase a) (map to_ascii_lowercase b)

-- the first of the names that the text is, without the blanks around it and but for the case of letters
abbrev pub alike : List (List ℕ) → List ℕ → Option (List ℕ)
alike [] text = None
alike (name ∷ names) text = if same_letters name (trim text) then Some name else alike names text

-- the text is no more than blanks
abbrev pub is_blank : List ℕ → Bool
is_blank text = length (trim text) == 0

-- the name that is alike; where none is, the text is kept
abbrev pub named : List (List ℕ) → Json → Json
named names null = null
named names (boolean b) = boolean b
named names (number s) = number s
named names (string s) = string (unwrap_or (alike names s) s)
named names (array js) = array js
named names (object ms) = object ms

-- the name that is alike; where none is, the default; null is as no member
abbrev pub named_or : List ℕ → List (List ℕ) → Json → Json
named_or default names null = null
named_or default names (boolean b) = string default
named_or default names (number s) = string default
named_or default names (string s) = string (unwrap_or (alike names s) default)
named_or default names (array js) = string default
named_or default names (object ms) = string default

-- as `named`, and a text of blanks is left out
abbrev pub named_if_any : List (List ℕ) → Json → Option Json
named_if_any names null = Some null
named_if_any names (boolean b) = Some (boolean b)
named_if_any names (number s) = Some (number s)
named_if_any names (string s) = if is_blank s then None else Some (string (unwrap_or (alike names s) s))
named_if_any names (array js) = Some (array js)
named_if_any names (object ms) = Some (object ms)

-- the value stands where a name should, and no name is alike; null and blanks are as no member
abbrev pub is_unnamed : List (List ℕ) → Json → Bool
is_unnamed names null = false
is_unnamed names (boolean b) = true
is_unnamed names (number s) = true
is_unnamed names (string s) = not (is_blank s) && is_none (alike names s)
is_unnamed names (array js) = true
is_unnamed names (object ms) = true
