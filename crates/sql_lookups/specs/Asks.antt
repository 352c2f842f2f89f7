-- What a look-up says.
use Rattle.std.specs.Prelude.{◌≡◌, ℕ, List, Option, find, option_map}
use Rattle.std.specs.Ordering.{is_gt}
use Rattle.hub_rows.specs.Keyed.{first, text_cmp}
use Rattle.hub_rows.specs.declared.meter_value_row.MeterValueRow.{MeterValueRow}
use Rattle.hub_rows.specs.declared.station_row.StationRow.{StationRow}
use Rattle.sql_rows.specs.Kept.{IsTop}
use Rattle.sql_rows.specs.TypedTables.{first_and_count}

-- the first number of the last of some meter values, and how many readings it is, if there are any
abbrev pub AreLastNumbers : List MeterValueRow → Option (ℕ × ℕ) → Type 0
AreLastNumbers values numbers = (ts : List MeterValueRow) × IsTop (λ m. m.first) values ts × (numbers ≡ option_map first_and_count (first ts))

-- the operator of the first station whose operator comes after a name, of stations in the order of their keys
abbrev pub next_operator_in : List ℕ → List StationRow → Option (List ℕ)
next_operator_in after stations = option_map (λ r. r.op) (find (λ r. is_gt (text_cmp r.op after)) stations)
