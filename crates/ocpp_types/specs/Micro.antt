-- The numbers of readings, in millionths of the base unit.
use Rattle.std.specs.Prelude.{ℕ, ◌+◌, ◌-◌, ◌*◌, ◌/◌, ◌%◌, ◌^◌, nat_lt, ◌==◌, Bool, if◌then◌else◌, ℤ, pos, neg_ℤ, List, length, Option, Some, None, option_map, option_and_then}
use Rattle.std.specs.List.{position_or_len, before_first, after_first}
use Rattle.std.specs.Str.Parse.{starts_with_minus, without_leading_sign}
use Rattle.ocpp_types.specs.Digits.{number_of_digits}
use Rattle.ocpp_types.specs.declared.unit_of_measure.UnitOfMeasure.{UnitOfMeasure}
use Rattle.ocpp_types.specs.declared.unit_of_measure.UnitOfMeasure.TheVariants.{KWh, Kvarh, KW, KVA, Kvar}

-- how many of its base unit a unit is; no unit counts as a base unit
abbrev pub scale : Option UnitOfMeasure → ℕ
scale (Some KWh) = 1000
scale (Some Kvarh) = 1000
scale (Some KW) = 1000
scale (Some KVA) = 1000
scale (Some Kvar) = 1000
scale _ = 1

-- the digits before a point, in billionths
abbrev pub whole_billionths : List ℕ → Option ℕ
whole_billionths text = option_map (λ n. n * 10 ^ 9) (number_of_digits 12 text)

-- the digits after a point, in billionths
abbrev pub fraction_billionths : List ℕ → Option ℕ
fraction_billionths text = option_map (λ n. n * 10 ^ (9 - length text)) (number_of_digits 9 text)

-- the sum of two numbers, if both are there
abbrev pub sum_of_both : Option ℕ → Option ℕ → Option ℕ
sum_of_both (Some m) (Some n) = Some (m + n)
sum_of_both _ _ = None

abbrev pub is_point : ℕ → Bool
is_point byte = byte == 46

-- a decimal number without a sign, in billionths, with a point between its two parts
abbrev pub billionths : List ℕ → Option ℕ
billionths text =
    if nat_lt (position_or_len is_point text) (length text)
    then sum_of_both (whole_billionths (before_first is_point text)) (fraction_billionths (after_first is_point text))
    else whole_billionths text

-- the thousandth part of a number, if that is whole
abbrev pub thousandth : ℕ → Option ℕ
thousandth n = if n % 1000 == 0 then Some (n / 1000) else None

-- a reading without a sign, in millionths of the base unit
abbrev pub magnitude : List ℕ → Option UnitOfMeasure → Option ℕ
magnitude text unit = option_and_then (λ n. thousandth (n * scale unit)) (billionths text)

-- a number, below zero where a text begins with a minus
abbrev pub signed_by : List ℕ → ℕ → ℤ
signed_by text n = if starts_with_minus text then neg_ℤ (pos n) else pos n

-- a reading, in millionths of the base unit
abbrev pub micro : List ℕ → Option UnitOfMeasure → Option ℤ
micro text unit = option_map (signed_by text) (magnitude (without_leading_sign text) unit)
