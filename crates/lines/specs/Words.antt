-- Words that are separated by one space.
use Rattle.std.specs.Prelude.{ℕ, nat_le, nat_lt, ◌==◌, slice_index, Bool, ◌&&◌, ◌||◌, is_some, List, length, min, Option, Some, None, codes, if◌then◌else◌, option_and_then, option_map}
use Rattle.std.specs.List.{position_or_len, before_first, after_first}
use Rattle.std.specs.Str.{bytes_eq}
use Rattle.hub_rows.specs.Transactions.{last_of_all}
use Rattle.ocpp_types.specs.Digits.{number_of_digits}
use Rattle.ocpp_types.specs.Moment.{moment_of}

abbrev pub is_space : ℕ → Bool
is_space byte = byte == 32

-- the first word, and what follows the one space after it
abbrev pub first_word : List ℕ → Option (List ℕ × List ℕ)
first_word text = if nat_lt 0 (position_or_len is_space text) && nat_lt (position_or_len is_space text) (length text) then Some (before_first is_space text, after_first is_space text) else None

-- the whole text, where it is one word
abbrev pub only_word : List ℕ → Option (List ℕ)
only_word text = if nat_lt 0 (length text) && (position_or_len is_space text == length text) then Some text else None

-- the number that 1 to 12 decimal digits are
abbrev pub number_of : List ℕ → Option ℕ
number_of text = number_of_digits 12 text

-- whether a text begins with the digit 0
abbrev pub begins_with_0 : List ℕ → Bool
begins_with_0 text = slice_index text 0 == 48

-- the number from 1 to 2147483647 that decimal digits without a 0 in front are
abbrev pub transaction_number : List ℕ → Option ℕ
transaction_number text = if begins_with_0 text then None else option_and_then (λ n. if nat_le n last_of_all then Some n else None) (number_of text)

-- how far numbers go: no number is past 2147483647
abbrev pub end_number : List ℕ → Option ℕ
end_number text = option_map (λ n. min n last_of_all) (number_of text)

-- the moment of that number of seconds
abbrev pub moment_at : List ℕ → Option ℕ
moment_at text = option_and_then moment_of (number_of text)

-- `-` stands for no parent
abbrev pub parent_of : List ℕ → Option (List ℕ)
parent_of word = if bytes_eq word (codes "-") then None else Some word

-- a meter is `-` or a number, and `-` stands for none
abbrev pub meter_of : List ℕ → Option (Option ℕ)
meter_of word = if bytes_eq word (codes "-") then Some None else option_map Some (number_of word)

-- an expiry is `-` or a moment, and `-` stands for none
abbrev pub is_expiry : List ℕ → Bool
is_expiry word = bytes_eq word (codes "-") || is_some (moment_at word)

abbrev pub expiry_of : List ℕ → Option ℕ
expiry_of word = if bytes_eq word (codes "-") then None else moment_at word

infixl 10 ◌>>=◌
abbrev pub ◌>>=◌ : {A B : Type 0} → Option A → (A → Option B) → Option B
value >>= next = option_and_then next value
