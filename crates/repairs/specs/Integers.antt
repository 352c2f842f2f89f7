-- What is read in place of an integer.
use Rattle.std.specs.Prelude.{ℕ, nat_lt, ◌&&◌, List, [], ◌∷◌, length, Bool, true, false, if◌then◌else◌, Option, Some, None}
use Rattle.std.specs.Char.{is_ascii_digit}
use Rattle.std.specs.List.{list_all}
use Rattle.json.specs.Json.{Json, null, boolean, number, string, array, object}
use Rattle.json.specs.Word.{after_number}
use Rattle.repairs.specs.Texts.{whole, without_zeros}

-- the text is a number of JSON, and nothing follows it
abbrev pub nothing_left : Option (List ℕ) → Bool
nothing_left None = false
nothing_left (Some []) = true
nothing_left (Some (c ∷ cs)) = false

abbrev pub is_number : List ℕ → Bool
is_number text = nothing_left (after_number text)

-- the number of that text; where the text is none, the other value
abbrev pub number_or : List ℕ → Json → Json
number_or text other = if is_number text then number text else other

-- one decimal digit or more
abbrev pub is_digits : List ℕ → Bool
is_digits text = nat_lt 0 (length text) && list_all is_ascii_digit text

-- a number with a fraction of zeros is read without it, and a text of digits as their number
abbrev pub integer : Json → Json
integer null = null
integer (boolean b) = boolean b
integer (number s) = number_or (whole s) (number s)
integer (string s) = if is_digits s then number_or (without_zeros s) (string s) else string s
integer (array js) = array js
integer (object ms) = object ms
