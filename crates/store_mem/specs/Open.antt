-- The open transactions, by their operators and by the keys of the tags in use.
use Rattle.std.specs.Prelude.{◌≡◌, ℕ, List, [], ◌∷◌, Bool, false, ◌&&◌, not, ◌==◌, map, Option, Some, None}
use Rattle.std.specs.List.{filter_map, list_any}
use Rattle.std.specs.Str.{bytes_eq}
use Rattle.hub_rows.specs.declared.tx_row.TxRow.{TxRow}
use Rattle.hub_rows.specs.declared.tx_row.TxKey.{TxKey}
use Rattle.hub_rows.specs.Keyed.{found, those}
use Rattle.hub_rows.specs.Transactions.{is_tx}
use Rattle.store_mem.specs.declared.named_groups.NamedGroup.{NamedGroup}
use Rattle.store_mem.specs.declared.open.OpenRow.{OpenRow}
use Rattle.store_mem.specs.NamedGroups.{rows_at, AreInPlace}

abbrev pub open_key : OpenRow → List (List ℕ)
open_key o = o.station ∷ (o.number ∷ []) ∷ []

abbrev pub open_of : TxRow → OpenRow
open_of r = record { station = r.station; number = r.number }

-- the transaction of that number of a station
abbrev pub is_open_tx : List ℕ → ℕ → OpenRow → Bool
is_open_tx station number o = bytes_eq o.station station && o.number == number

-- the transaction that is left out
abbrev pub is_excepted : Option TxKey → OpenRow → Bool
is_excepted None o = false
is_excepted (Some k) o = is_open_tx k.station k.number o

-- whether one of some transactions is not left out
abbrev pub has_other : Option TxKey → List OpenRow → Bool
has_other except opens = list_any (λ o. not (is_excepted except o)) opens

-- whether one of some transactions is of a station
abbrev pub has_at : List ℕ → List OpenRow → Bool
has_at station opens = list_any (λ o. bytes_eq o.station station) opens

-- the transaction of operator b that an open one names
abbrev pub tx_of : List ℕ → List TxRow → OpenRow → Option TxRow
tx_of b txs o = found (λ r. r.op) b (is_tx o.station o.number) txs

-- the transactions of operator b that some open ones name
abbrev pub txs_of : List ℕ → List TxRow → List OpenRow → List TxRow
txs_of b txs opens = filter_map (tx_of b txs) opens

module _ (stands : TxRow → Bool) (name : TxRow → List ℕ) where
  -- the transactions of operator b that are under the name n
  abbrev pub opens_of : List ℕ → List ℕ → List TxRow → List OpenRow
  opens_of b n txs = map open_of (those (λ r. r.op) b (λ r. stands r && bytes_eq (name r) n) txs)

  -- those among all transactions, under each name
  pub record AreOpens (opens : List (NamedGroup OpenRow)) (txs : List TxRow) : Type 0 where
    pub in_place : AreInPlace opens
    pub each : (b n : List ℕ) → rows_at b n opens ≡ opens_of b n txs
