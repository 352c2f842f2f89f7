-- The owner of a new transaction's tag goes behind those of its station.
use Rattle.std.specs.Prelude.{◌≡◌, ℕ, ◌<◌, ◌≤◌, List, [], ◌∷◌, true, false, cond, ◌&&◌, map, Option, None, Some}
use Rattle.std.specs.List.{AllByRecursion}
use Rattle.std.specs.Str.{bytes_eq}
use Rattle.std.proofs.Common.{refl, arith, subst}
use Rattle.std.proofs.lemmas.Bool.{and_parts}
use Rattle.hub_rows.specs.declared.tx_row.TxOwnerRow.{TxOwnerRow}
use Rattle.hub_rows.specs.declared.tx_row.TxRow.{TxRow}
use Rattle.hub_rows.specs.Keyed.{found, greatest, those}
use Rattle.hub_rows.specs.Transactions.{is_tx}
use Rattle.hub_rows.specs.WellFormed.{IsGoodTxOwner}
use Rattle.hub_rows.proofs.ListLaws.{same_text}
use Rattle.hub_rows.proofs.OwnerLaws.{began_some, found-under}
use Rattle.store_mem.specs.TxOwners.{owner_row, IsBehind}

-- the last number of a station's transactions
abbrev pub last_of : List ℕ → List ℕ → List TxRow → ℕ
last_of b st txs = greatest (map (λ x. x.number) (those (λ x. x.op) b (λ x. bytes_eq x.station st) txs))

-- a row of the station that goes with a transaction has at most the last number
owners-under : (b st : List ℕ) (txs : List TxRow) (rows : List TxOwnerRow) → AllByRecursion (IsGoodTxOwner txs) rows → greatest (map (λ x. x.number) (those (λ x. x.op) b (λ x. bytes_eq x.station st) rows)) ≤ last_of b st txs
owners-under b st txs [] all = omega arith
owners-under b st txs (r ∷ rows) all =
    let low = owners-under b st txs rows all.1 in
    elim (bytes_eq r.op b && bytes_eq r.station st) as (λ t. (bytes_eq r.op b && bytes_eq r.station st) ≡ t → greatest (map (λ x. x.number) (cond t (r ∷ those (λ x. x.op) b (λ x. bytes_eq x.station st) rows) (those (λ x. x.op) b (λ x. bytes_eq x.station st) rows))) ≤ last_of b st txs) [
      | true ↦ λ e.
          let both = and_parts (bytes_eq r.op b) (bytes_eq r.station st) e in
          let here : r.number ≤ last_of b st txs = subst (λ o. r.number ≤ last_of o st txs) (same_text r.op b both.0) (subst (λ s. r.number ≤ last_of r.op s txs) (same_text r.station st both.1) (found-under r.op r.station r.number txs (began_some (found (λ t. t.op) r.op (is_tx r.station r.number) txs) all.0.tx))) in
          omega (arith, here, low)
      | false ↦ λ e. low
    ] refl

-- a row of a new transaction
pub new_owner : (b st : List ℕ) (n : ℕ) (owner : Option (List ℕ)) (txs : List TxRow) (rows : List TxOwnerRow) → last_of b st txs < n → AllByRecursion (IsGoodTxOwner txs) rows → IsBehind (owner_row b st n owner) rows
new_owner b st n None txs rows below all = tt
new_owner b st n (Some a) txs rows below all = let low = owners-under b st txs rows all in omega (arith, low, below)
