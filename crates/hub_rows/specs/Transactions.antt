-- Transactions, and what rules ask of them.
use Rattle.std.specs.Prelude.{◌≡◌, ℕ, nat_le, ◌+◌, ◌≤◌, ◌⊎◌, List, map, Bool, true, false, not, ◌&&◌, ◌==◌, is_none, Option, Some, None}
use Rattle.std.specs.Option.{option_map}
use Rattle.std.specs.Ordering.{int_eq}
use Rattle.std.specs.Str.{bytes_eq}
use Rattle.ocpp_types.specs.declared.authorization_status.AuthorizationStatus.{AuthorizationStatus}
use Rattle.ocpp_types.specs.declared.authorization_status.AuthorizationStatus.TheVariants.{Accepted, Blocked, Expired, Invalid, ConcurrentTx}
use Rattle.hub_rows.specs.declared.tx_row.TxRow.{TxRow}
use Rattle.hub_rows.specs.declared.tx_row.TxKey.{TxKey}
use Rattle.hub_rows.specs.declared.tx_row.TxState.{TxState}
use Rattle.hub_rows.specs.declared.tx_row.StartKey.{StartKey}
use Rattle.hub_rows.specs.declared.tx_row.TheConstants.{LAST_NUMBER}
use Rattle.hub_rows.specs.Keyed.{found, those, any_of, greatest}

-- ---- one transaction

abbrev pub is_open : TxRow → Bool
is_open r = is_none r.stop

abbrev pub is_accepted : AuthorizationStatus → Bool
is_accepted Accepted = true
is_accepted Blocked = false
is_accepted Expired = false
is_accepted Invalid = false
is_accepted ConcurrentTx = false

-- open, and begun Accepted: its tag is in use
abbrev pub counts : TxRow → Bool
counts r = is_open r && is_accepted r.start.status

abbrev pub state_of : TxRow → TxState
state_of r = record { connector = r.start.id.connector; meter_start = r.start.id.meter_start; is_open = is_open r }

-- the transaction of that number of a station
abbrev pub is_tx : List ℕ → ℕ → TxRow → Bool
is_tx station number r = bytes_eq r.station station && r.number == number

abbrev pub is_left_out : Option TxKey → TxRow → Bool
is_left_out None r = false
is_left_out (Some k) r = is_tx k.station k.number r

-- a transaction by which the tag of a key is in use, unless it is left out
abbrev pub is_use : List ℕ → Option TxKey → TxRow → Bool
is_use key except r = counts r && (bytes_eq r.start.id.key key && not (is_left_out except r))

-- equal in connector, tag key, meter and time
abbrev pub is_start : StartKey → StartKey → Bool
is_start k s = s.connector == k.connector && (bytes_eq s.key k.key && (int_eq s.meter_start k.meter_start && int_eq s.at k.at))

-- a transaction of a station that began with that start
abbrev pub is_started : List ℕ → StartKey → TxRow → Bool
is_started station k r = bytes_eq r.station station && is_start k r.start.id

-- ---- the transactions of operator b, among those of all

-- whether the tag of a key is in use at any station, by another transaction than the one left out
abbrev pub is_used_in : List ℕ → List ℕ → Option TxKey → List TxRow → Bool
is_used_in b key except txs = any_of (λ r. r.op) b (is_use key except) txs

-- the first transaction of a station with that start
abbrev pub same_start_in : List ℕ → List ℕ → StartKey → List TxRow → Option ℕ
same_start_in b station k txs = option_map (λ r. r.number) (found (λ r. r.op) b (is_started station k) txs)

abbrev pub tx_in : List ℕ → List ℕ → ℕ → List TxRow → Option TxState
tx_in b station number txs = option_map state_of (found (λ r. r.op) b (is_tx station number) txs)

-- whether a transaction of a station is open
abbrev pub has_open_in : List ℕ → List ℕ → List TxRow → Bool
has_open_in b station txs = any_of (λ r. r.op) b (λ r. bytes_eq r.station station && is_open r) txs

abbrev pub txs_in : List ℕ → List ℕ → List TxRow → List TxRow
txs_in b station txs = those (λ r. r.op) b (λ r. bytes_eq r.station station) txs

-- those of a station from that number on
abbrev pub txs_from_in : List ℕ → List ℕ → ℕ → List TxRow → List TxRow
txs_from_in b station first txs = those (λ r. r.op) b (λ r. bytes_eq r.station station && nat_le first r.number) txs

-- the open ones of all stations
abbrev pub open_txs_in : List ℕ → List TxRow → List TxRow
open_txs_in b txs = those (λ r. r.op) b is_open txs

-- ---- numbers

abbrev pub numbers_of : {R : Type 0} → (R → ℕ) → List R → List ℕ
numbers_of number rows = map number rows

-- the last number of a station's transactions, 0 where it has none
abbrev pub last_tx_in : List ℕ → List ℕ → List TxRow → ℕ
last_tx_in b station txs = greatest (numbers_of (λ r. r.number) (txs_in b station txs))

-- the last number of a transaction, a reading, a use or a call
abbrev pub last_of_all : ℕ
last_of_all = LAST_NUMBER

-- so many new rows follow the last number, which is 0 where there is none
pub record Follow (last first count : ℕ) : Type 0 where
  pub next : (last ≡ 0) ⊎ (first ≡ last + 1)
  pub from_one : 1 ≤ first
  pub to_the_end : first + count ≤ last_of_all + 1

-- so many new rows may be numbered from the first number on
abbrev pub AreNext : ℕ → ℕ → ℕ → Type 0
AreNext last first count = (count ≡ 0) ⊎ Follow last first count
