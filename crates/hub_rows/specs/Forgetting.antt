-- What of a station's history may go before a moment, over the station's own rows in the order of their numbers.
use Rattle.std.specs.Prelude.{ℕ, suc, zero, ◌*◌, ◌+◌, ◌-◌, ◌==◌, nat_le, nat_lt, ℤ, pos, int_lt, Bool, false, ◌&&◌, not, List, [], ◌∷◌, length, map, filter, find, take, Option, Some, None}
use Rattle.std.specs.List.{list_any}
use Rattle.std.specs.Ordering.{int_eq}
use Rattle.std.specs.Str.{bytes_eq}
use Rattle.hub_rows.specs.declared.forgettable.Forgettable.{Forgettable}
use Rattle.hub_rows.specs.declared.forgettable.History.{History}
use Rattle.hub_rows.specs.declared.forgettable.TheConstants.{MAX_FORGOTTEN, MAX_READINGS}
use Rattle.hub_rows.specs.declared.meter_value_row.MeterValueRow.{MeterValueRow}
use Rattle.hub_rows.specs.declared.tx_row.Stop.{Stop}
use Rattle.hub_rows.specs.declared.tx_row.TxRow.{TxRow}
use Rattle.hub_rows.specs.MeterValues.{is_sent_with}

-- stopped, and recorded as such, before a moment
abbrev pub is_before : ℕ → Option Stop → Bool
is_before until None = false
is_before until (Some stop) = nat_lt stop.moment until

abbrev pub is_over : ℕ → TxRow → Bool
is_over until t = is_before until t.stop

-- the first MAX_FORGOTTEN rows or fewer, without the last of all, so that numbers go on
abbrev pub oldest : {R : Type 0} → List R → List R
oldest rows = take MAX_FORGOTTEN (take (length rows - 1) rows)

-- ---- meter values

-- the shortest prefix of these meter values that has at least n readings, or all of them
abbrev pub until_readings : ℕ → List MeterValueRow → List MeterValueRow
until_readings zero rows = []
until_readings (suc n) [] = []
until_readings (suc n) (r ∷ rs) = r ∷ until_readings (suc n - length r.value.sampled) rs

-- the meter values that an order to forget looks at
abbrev pub oldest_values : List MeterValueRow → List MeterValueRow
oldest_values rows = until_readings MAX_READINGS (oldest rows)

-- the transaction that a meter value names, if it is on record
abbrev pub named_tx : Option ℤ → List TxRow → Option TxRow
named_tx None txs = None
named_tx (Some id) txs = find (λ t. int_eq id (pos t.number)) txs

-- a meter value may go with its transaction, or by its own time where it names none on record
abbrev pub goes_with : ℕ → ℤ → Option TxRow → Bool
goes_with until at None = int_lt at (pos (until * 1000))
goes_with until at (Some t) = is_over until t

abbrev pub may_go : ℕ → List TxRow → MeterValueRow → Bool
may_go until txs r = goes_with until r.value.at (named_tx r.value.transaction txs)

abbrev pub old_meter_values : ℕ → List TxRow → List MeterValueRow → List MeterValueRow
old_meter_values until txs rows = filter (may_go until txs) (oldest_values rows)

-- ---- transactions

abbrev pub names : TxRow → MeterValueRow → Bool
names t r = is_sent_with (Some t.number) r.value.transaction

-- a transaction may go once no meter value names it
abbrev pub tx_goes : ℕ → List MeterValueRow → TxRow → Bool
tx_goes until rows t = is_over until t && not (list_any (names t) rows)

abbrev pub old_txs : ℕ → List TxRow → List MeterValueRow → List TxRow
old_txs until txs rows = filter (tx_goes until rows) (oldest txs)

-- ---- both

-- transactions go where no meter values do
abbrev pub old_rows : ℕ → List TxRow → List MeterValueRow → List MeterValueRow → History
old_rows until txs rows [] = record { meter_values = []; transactions = old_txs until txs rows }
old_rows until txs rows (v ∷ vs) = record { meter_values = v ∷ vs; transactions = [] }

abbrev pub forgettable : ℕ → List TxRow → List MeterValueRow → History
forgettable until txs rows = old_rows until txs rows (old_meter_values until txs rows)

-- of these rows, those with numbers up to two ends
abbrev pub up_to : ℕ → ℕ → History → History
up_to reading transaction h = record { meter_values = filter (λ r. nat_le r.first reading) h.meter_values; transactions = filter (λ t. nat_le t.number transaction) h.transactions }

-- no history
abbrev pub has_no_rows : History → Bool
has_no_rows h = (length h.meter_values == 0) && (length h.transactions == 0)

-- how many readings meter values have
abbrev pub count_readings : List MeterValueRow → ℕ
count_readings [] = 0
count_readings (r ∷ rs) = length r.value.sampled + count_readings rs

-- by their numbers
abbrev pub numbers_of : History → Forgettable
numbers_of h = record { meter_values = map (λ r. r.first) h.meter_values; transactions = map (λ t. t.number) h.transactions }

-- ---- what goes

abbrev pub has_number : List ℕ → ℕ → Bool
has_number numbers n = list_any (λ number. number == n) numbers

-- a row of a station with one of these numbers
abbrev pub is_one_of : {R : Type 0} → (R → List ℕ) → (R → ℕ) → List ℕ → List ℕ → R → Bool
is_one_of station number name numbers r = bytes_eq (station r) name && has_number numbers (number r)
