-- Meter values, the numbers of their readings, and what rules ask of them.
use Rattle.std.specs.Prelude.{ℕ, ◌+◌, ◌-◌, ℤ, pos, List, [], ◌∷◌, length, Bool, true, false, ◌&&◌, Option, Some, None}
use Rattle.std.specs.Ordering.{int_eq}
use Rattle.std.specs.Str.{bytes_eq}
use Rattle.hub_rows.specs.declared.meter_value_row.MeterValue.{MeterValue}
use Rattle.hub_rows.specs.declared.meter_value_row.MeterValueRow.{MeterValueRow}
use Rattle.hub_rows.specs.Keyed.{those}

-- ---- those of a station

-- sent with any number of a transaction or none, or with that one
abbrev pub is_sent_with : Option ℕ → Option ℤ → Bool
is_sent_with None transaction = true
is_sent_with (Some n) None = false
is_sent_with (Some n) (Some transaction) = int_eq transaction (pos n)

-- a meter value of a station, of all or of those that were sent with the number of a transaction
abbrev pub is_meter_value : List ℕ → Option ℕ → MeterValueRow → Bool
is_meter_value station n r = bytes_eq r.station station && is_sent_with n r.value.transaction

-- those of a station of operator b, among those of all
abbrev pub meter_values_in : List ℕ → List ℕ → Option ℕ → List MeterValueRow → List MeterValueRow
meter_values_in b station n rows = those (λ r. r.op) b (is_meter_value station n) rows

-- ---- the numbers of readings

-- one for each reading of a meter value, and one where it has none
abbrev pub numbers_taken : MeterValue → ℕ
numbers_taken v = (length v.sampled - 1) + 1

abbrev pub all_taken : List MeterValue → ℕ
all_taken [] = 0
all_taken (v ∷ vs) = numbers_taken v + all_taken vs

-- the number of the last reading of a meter value
abbrev pub last_number : MeterValueRow → ℕ
last_number r = r.first + (length r.value.sampled - 1)

-- that of the last of some meter values, 0 where there are none
abbrev pub number_of_last : List MeterValueRow → ℕ
number_of_last [] = 0
number_of_last (r ∷ []) = last_number r
number_of_last (r ∷ s ∷ rs) = number_of_last (s ∷ rs)

-- the last number of a station's readings, 0 where it has none
abbrev pub last_reading_in : List ℕ → List ℕ → List MeterValueRow → ℕ
last_reading_in b station rows = number_of_last (meter_values_in b station None rows)

-- meter values of a station, their readings numbered from the first number on
abbrev pub meter_value_rows : List ℕ → List ℕ → ℕ → List MeterValue → List MeterValueRow
meter_value_rows b station first [] = []
meter_value_rows b station first (v ∷ vs) = record { op = b; station = station; first = first; value = v } ∷ meter_value_rows b station (first + numbers_taken v) vs
