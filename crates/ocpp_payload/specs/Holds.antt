-- What a member of a command or of an answer holds: how it is read, what of it is bad, and its JSON.
use Rattle.std.specs.Prelude.{◌≡◌, refl, ℕ, nat_le, ℤ, int_le, List, [], ◌∷◌, map, Bool, false, ◌&&◌, if◌then◌else◌, Option, Some, None}
use Rattle.std.specs.Option.{option_or}
use Rattle.serde_json.specs.Data.{Data, boolean, number, string, array}
use Rattle.serde_json.specs.Find.{of_integer}
use Rattle.serde_json.specs.View.{items_of}
use Rattle.serde_json.specs.Written.{has_float, items_have_float}
use Rattle.ocpp_types.specs.Text.{characters}
use Rattle.ocpp_payload.specs.Conf.{time_data}
use Rattle.ocpp_payload.specs.Kind as kind
use Rattle.ocpp_payload.specs.Kind.{Kind}
use Rattle.ocpp_payload.specs.Lists.{list_of}
use Rattle.ocpp_payload.specs.Plain.{or_false, integer_plain}

-- `bad` gives the name of the member, if its value is out of its bounds; `plain`: the JSON has no
-- float
pub record Holds (A : Type 0) : Type 0 where
  pub reads : Kind A
  pub bad : List ℕ → A → Option (List ℕ)
  pub json : A → Data
  pub plain : (x : A) → has_float (json x) ≡ false

-- what is read is within its bounds
abbrev pub never : {A : Type 0} → List ℕ → A → Option (List ℕ)
never name x = None

-- the name, where the value isn't within its bounds
abbrev pub unless : Bool → List ℕ → Option (List ℕ)
unless within name = if within then None else Some name

-- a text that is checked as it is read
abbrev pub holds_text : Kind (List ℕ) → Holds (List ℕ)
holds_text read = record { reads = read; bad = never; json = string; plain = λ s. refl }

-- a truth value
abbrev pub holds_boolean : Holds Bool
holds_boolean = record { reads = kind.boolean; bad = never; json = boolean; plain = λ b. refl }

-- a value that is read and written by its name
abbrev pub holds_name : {A : Type 0} → List (List ℕ × A) → (A → List ℕ) → Holds A
holds_name names name_of = record { reads = kind.choice names; bad = never; json = λ x. string (name_of x); plain = λ x. refl }

-- a signed number of 32 bits, checked as it is read
abbrev pub holds_int_32 : Holds ℤ
holds_int_32 = record { reads = kind.int_32; bad = never; json = λ z. number (of_integer z); plain = integer_plain }

-- a moment, of a time that may have a fraction
abbrev pub holds_moment : Holds ℕ
holds_moment = record { reads = kind.moment; bad = never; json = time_data; plain = λ m. refl }

-- any text is read, and one of more characters is bad
abbrev pub holds_text_within : ℕ → Holds (List ℕ)
holds_text_within limit = record {
  reads = kind.any_text;
  bad = λ name s. unless (nat_le (characters s) limit) name;
  json = string;
  plain = λ s. refl;
}

-- any integer of 64 bits is read, and one out of these bounds is bad
abbrev pub holds_integer_within : ℤ → ℤ → Holds ℤ
holds_integer_within low high = record {
  reads = kind.int_64;
  bad = λ name z. unless (int_le low z && int_le z high) name;
  json = λ z. number (of_integer z);
  plain = integer_plain;
}

-- ---- lists

-- the first name that a list of values gives
abbrev pub first_bad : {A : Type 0} → (A → Option (List ℕ)) → List A → Option (List ℕ)
first_bad bad [] = None
first_bad bad (x ∷ xs) = option_or (bad x) (first_bad bad xs)

abbrev items_plain : {A : Type 0} → (h : Holds A) → (xs : List A) → items_have_float (items_of (map h.json xs)) ≡ false
items_plain h [] = refl
items_plain h (x ∷ xs) = or_false (h.plain x) (items_plain h xs)

-- a list of such values, each within its bounds
abbrev pub holds_list : {A : Type 0} → Holds A → Holds (List A)
holds_list h = record {
  reads = list_of h.reads;
  bad = λ name xs. first_bad (h.bad name) xs;
  json = λ xs. array (items_of (map h.json xs));
  plain = items_plain h;
}
