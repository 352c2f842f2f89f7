-- The starts of each station, in the order of their times.
use Rattle.std.specs.Prelude.{◌≡◌, ℕ, ℤ, unsigned_abs, if◌then◌else◌, List, [], ◌∷◌, map, find, Option}
use Rattle.std.specs.Int.{is_negative}
use Rattle.std.specs.Option.{option_map}
use Rattle.std.specs.Str.{bytes_eq}
use Rattle.hub_rows.specs.declared.tx_row.StartKey.{StartKey}
use Rattle.hub_rows.specs.declared.tx_row.TxRow.{TxRow}
use Rattle.hub_rows.specs.Keyed.{by_key, in_order, those}
use Rattle.hub_rows.specs.Transactions.{is_start}
use Rattle.store_mem.specs.declared.starts.StartRow.{StartRow}
use Rattle.store_mem.specs.declared.named_groups.NamedGroup.{NamedGroup}
use Rattle.store_mem.specs.NamedGroups.{rows_at, AreInPlace}

-- the sign of a signed number: 1 below zero, else 0
abbrev pub sign : ℤ → ℕ
sign z = if is_negative z then 1 else 0

-- what tells starts apart, as one list of numbers: the time first, by its size and its sign
abbrev pub code : StartKey → List ℕ
code s = unsigned_abs s.at ∷ sign s.at ∷ unsigned_abs s.meter_start ∷ sign s.meter_start ∷ s.connector ∷ s.key

abbrev pub start_key : StartRow → List (List ℕ)
start_key r = code r.start ∷ (r.number ∷ []) ∷ []

abbrev pub start_of : TxRow → StartRow
start_of r = record { start = r.start.id; number = r.number }

-- the starts of a station's transactions
abbrev pub starts_of : List ℕ → List ℕ → List TxRow → List StartRow
starts_of b st txs = map start_of (those (λ r. r.op) b (λ r. bytes_eq r.station st) txs)

-- the starts of all transactions, station by station, each station's in order
pub record AreStarts (ss : List (NamedGroup StartRow)) (txs : List TxRow) : Type 0 where
  pub in_place : AreInPlace ss
  pub each : (b st : List ℕ) → rows_at b st ss ≡ in_order (by_key start_key) (starts_of b st txs)

-- the number of the first of some starts that is equal to one
abbrev pub number_of : StartKey → List StartRow → Option ℕ
number_of k rows = option_map (λ r. r.number) (find (λ r. is_start k r.start) rows)
