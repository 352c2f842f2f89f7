-- What is read in place of a text, or as one.
use Rattle.std.specs.Prelude.{ℕ, ◌==◌, List, [], ◌∷◌, take, Bool, if◌then◌else◌}
use Rattle.std.specs.List.{after_first, before_first, list_all}
use Rattle.std.specs.Option.{is_some}
use Rattle.std.specs.Str.{chars, encode_utf8_all}
use Rattle.json.specs.Json.{Json, null, boolean, number, string, array, object}
use Rattle.ocpp_types.specs.Micro.{is_point}
use Rattle.ocpp_types.specs.Time.{time_of}

-- the first characters of a text, at most so many
abbrev pub shortened : ℕ → List ℕ → List ℕ
shortened most text = encode_utf8_all (take most (chars text))

abbrev pub is_zero : ℕ → Bool
is_zero c = c == 48

-- what stands before the first point, where all that stands after it is zeros
abbrev pub whole : List ℕ → List ℕ
whole text = if list_all is_zero (after_first is_point text) then before_first is_point text else text

-- digits without the zeros that they begin with; the last digit stays
abbrev pub without_zeros : List ℕ → List ℕ
without_zeros [] = []
without_zeros (c ∷ []) = c ∷ []
without_zeros (c ∷ d ∷ rest) = if is_zero c then without_zeros (d ∷ rest) else c ∷ d ∷ rest

-- a change of texts; what is no text is kept
abbrev pub of_text : (List ℕ → List ℕ) → Json → Json
of_text change null = null
of_text change (boolean b) = boolean b
of_text change (number s) = number s
of_text change (string s) = string (change s)
of_text change (array js) = array js
of_text change (object ms) = object ms

-- the value of a reading, which is a text: a number is read as its text
abbrev pub value_text : Json → Json
value_text null = null
value_text (boolean b) = boolean b
value_text (number s) = string s
value_text (string s) = string s
value_text (array js) = array js
value_text (object ms) = object ms

-- a time: what can't be read as one is read as that text; null is as no member
abbrev pub time : List ℕ → Json → Json
time now null = null
time now (boolean b) = string now
time now (number s) = string now
time now (string s) = string (if is_some (time_of s) then s else now)
time now (array js) = string now
time now (object ms) = string now
