-- Rows of a station that are looked up page by page, in the order of their numbers.
use Rattle.std.specs.Prelude.{◌≡◌, ℕ, ◌+◌, ◌-◌, ◌<◌, max, nat_le, List, length, Option, None, Some, filter, take}
use Rattle.std.specs.List.{slice_get}
use Rattle.hub_rows.specs.declared.meter_value_row.MeterValueRow.{MeterValueRow}

-- the rows from a number on
abbrev pub from : {R : Type 0} → (R → ℕ) → ℕ → List R → List R
from number n rows = filter (λ r. nat_le n (number r)) rows

-- a page: the first `size` of these rows
abbrev pub page_from : {R : Type 0} → ℕ → (R → ℕ) → ℕ → List R → List R
page_from size number n rows = take size (from number n rows)

-- where the next page begins: after the last row of this one, if it has `size` rows
abbrev pub IsAfter : ℕ → ℕ → List MeterValueRow → Option ℕ → Type 0
IsAfter size first page None = length page < size
IsAfter size first page (Some next) = (r : MeterValueRow) × (Some r ≡ slice_get page (length page - 1)) × (next ≡ max r.first first + 1)

-- the last of so many numbers from the first on; 0 where there are none
abbrev pub last_in : Option (ℕ × ℕ) → ℕ
last_in None = 0
last_in (Some (first, count)) = first + (count - 1)
