-- A number of days, as a command line has it.
use Rattle.std.specs.Prelude.{ℕ, nat_lt, ◌==◌, Bool, List, length, Option, None, if◌then◌else◌, ◌&&◌}
use Rattle.std.specs.List.{position_or_len, before_first, after_first}
use Rattle.ocpp_types.specs.Digits.{number_of_digits}

abbrev pub is_d : ℕ → Bool
is_d byte = byte == 100

-- one to five digits and a `d`
abbrev pub days_of : List ℕ → Option ℕ
days_of text = if nat_lt (position_or_len is_d text) (length text) && (length (after_first is_d text) == 0) then number_of_digits 5 (before_first is_d text) else None
