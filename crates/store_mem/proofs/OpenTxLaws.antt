-- The open transactions of an operator: whether one is of a station, and which they are.
use Rattle.std.specs.Prelude.{◌≡◌, ℕ, zero, suc, ◌<◌, ◌≤◌, List, [], ◌∷◌, length, get_or, Bool, true, false, cond, ◌&&◌, ◌||◌, ◌==◌, Some, map, filter, Result, Ok, Err, is_ok}
use Rattle.std.specs.List.{AllByRecursion, HoldsAt, cons_option}
use Rattle.std.specs.List.Sorted.{IsStrictlySortedBy, IsNonDecreasingBy, IsSearchInRange, IsBinarySearchResult}
use Rattle.std.specs.Ordering.{ordering_then, ordering_index, is_eq}
use Rattle.std.specs.Str.{bytes_eq}
use Rattle.std.specs.declared.cmp.Ordering.{Ordering}
use Rattle.std.specs.declared.cmp.Ordering.TheVariants.{Less, Equal, Greater}
use Rattle.std.proofs.Common.{inl, inr, refl, sym, ◌∙◌, ap, arith}
use Rattle.std.proofs.lemmas.Bool.Decides.{Decides-eqb}
use Rattle.std.proofs.lemmas.Bool.{and_parts, cases_lt}
use Rattle.std.proofs.lemmas.Cmp.{tied_itself, nat_list_cmp_total}
use Rattle.std.proofs.lemmas.Map.Text.{is_eq-slice_cmp}
use Rattle.hub_rows.specs.declared.tx_row.TxRow.{TxRow}
use Rattle.hub_rows.specs.Keyed.{text_cmp, by_key, key_cmp, those}
use Rattle.hub_rows.specs.Rows.{tx_key}
use Rattle.hub_rows.specs.Transactions.{has_open_in, is_open, is_tx, open_txs_in}
use Rattle.hub_rows.proofs.ListLaws.{all-filter, all-weaker, and-true, keys_total, same_text, text_itself}
use Rattle.hub_rows.proofs.PlaceLaws.{all-at}
use Rattle.store_mem.proofs.DroppedLaws.{all-passed}
use Rattle.store_mem.specs.declared.open.OpenRow.{OpenRow}
use Rattle.store_mem.specs.Open.{open_key, open_of, opens_of, has_at, tx_of, txs_of}
use Rattle.store_mem.proofs.OpenLaws.{and_false}
use Rattle.hub_rows.proofs.FilterLaws.{all-both}

-- ---- a search for a station

module _ (st : List ℕ) where
  abbrev order : OpenRow → Ordering
  order o = text_cmp o.station st

  same_order : (o : OpenRow) → bytes_eq o.station st ≡ is_eq (order o)
  same_order o = sym (is_eq-slice_cmp o.station st)

  at_most : (o : Ordering) → ordering_index o ≤ 2
  at_most Less = omega arith
  at_most Equal = omega arith
  at_most Greater = omega arith

  -- of two stations in their order, the first is not behind st where the second is not
  rises-less : (x y : OpenRow) → text_cmp x.station y.station ≡ Less → ordering_index (order x) ≤ ordering_index (order y)
  rises-less x y below =
      elim (order y) as (λ o. order y ≡ o → ordering_index (order x) ≤ ordering_index o) [
        | Less ↦ λ e. let low : order x ≡ Less = nat_list_cmp_total.trans x.station y.station st below e in rw low (omega arith)
        | Equal ↦ λ e. let low : order x ≡ Less = ap (text_cmp x.station) (sym (same_text y.station st (same_order y ∙ ap is_eq e))) ∙ below in rw low (omega arith)
        | Greater ↦ λ e. at_most (order x)
      ] refl

  rises-pair : (x y : OpenRow) (o p : Ordering) → text_cmp x.station y.station ≡ o → ordering_then o p ≡ Less → ordering_index (order x) ≤ ordering_index (order y)
  rises-pair x y Less p is below = rises-less x y is
  rises-pair x y Equal p is below =
      let same : order x ≡ order y = ap (λ s. text_cmp s st) (same_text x.station y.station (sym (is_eq-slice_cmp x.station y.station) ∙ ap is_eq is)) in
      rw same (omega arith)
  rises-pair x y Greater p is below = absurd (cc)

  rises-all : (x : OpenRow) (xs : List OpenRow) (j : ℕ) (d : OpenRow) → AllByRecursion (λ y. by_key open_key x y ≡ Less) xs → j < length xs → ordering_index (order x) ≤ ordering_index (order (get_or xs j d))
  rises-all x xs j d below within =
      let y : OpenRow = get_or xs j d in
      rises-pair x y (text_cmp x.station y.station) (key_cmp ((x.number ∷ []) ∷ []) ((y.number ∷ []) ∷ [])) refl (all-at (λ y. by_key open_key x y ≡ Less) xs j d below within)

  rises : (opens : List OpenRow) → IsStrictlySortedBy (by_key open_key) opens → IsNonDecreasingBy (λ o. ordering_index (order o)) opens
  unfolding IsStrictlySortedBy
  rises [] sorted i j d le within = absurd (omega arith)
  rises (x ∷ opens) sorted zero zero d le within = omega arith
  rises (x ∷ opens) sorted zero (suc j) d le within = rises-all x opens j d sorted.0 (omega arith)
  rises (x ∷ opens) sorted (suc i) zero d le within = absurd (omega arith)
  rises (x ∷ opens) sorted (suc i) (suc j) d le within = rises opens sorted.1 i j d (omega arith) (omega arith)

  or_true : (b : Bool) → b || true ≡ true
  or_true true = refl
  or_true false = refl

  one-at : (opens : List OpenRow) (i : ℕ) → i < length opens → HoldsAt (λ o. order o ≡ Equal) opens i → has_at st opens ≡ true
  one-at [] i within equal = absurd (omega arith)
  one-at (x ∷ opens) zero within equal = ap (λ t. t || has_at st opens) (same_order x ∙ ap is_eq (equal x))
  one-at (x ∷ opens) (suc i) within equal = ap (λ t. bytes_eq x.station st || t) (one-at opens i (omega arith) (λ d. equal d)) ∙ or_true (bytes_eq x.station st)

  none-at : (opens : List OpenRow) → ((j : ℕ) (d : OpenRow) → j < length opens → is_eq (order (get_or opens j d)) ≡ false) → has_at st opens ≡ false
  none-at [] other = refl
  none-at (x ∷ opens) other =
      ap (λ t. t || has_at st opens) (same_order x ∙ other 0 x (omega arith)) ∙ none-at opens (λ j d within. other (suc j) d (omega arith))

  -- what a binary search by the stations finds
  pub searched : (opens : List OpenRow) (r : Result ℕ ℕ) → IsStrictlySortedBy (by_key open_key) opens → IsSearchInRange r (length opens) → IsBinarySearchResult order opens r → is_ok r ≡ has_at st opens
  searched opens (Ok i) sorted within equal = sym (one-at opens i within equal)
  searched opens (Err i) sorted within parted =
      let parts = parted (rises opens sorted) in
      sym (none-at opens (λ j d inside. elim (cases_lt j i) [
        | inl low ↦ ap is_eq (parts.0 j d (omega arith) low)
        | inr high ↦ ap is_eq (parts.1 j d high inside)
      ]))

-- ---- among all transactions

-- a station has an open transaction where one of the operator's is of it
pub open-at : (b st : List ℕ) (txs : List TxRow) → has_open_in b st txs ≡ has_at st (opens_of is_open (λ r. r.op) b b txs)
open-at b st [] = refl
open-at b st (r ∷ txs) = step (bytes_eq r.op b) (is_open r) (those (λ x. x.op) b (λ x. is_open x && bytes_eq x.op b) txs) (open-at b st txs)
  where
    step : (o s : Bool) (rest : List TxRow) → has_open_in b st txs ≡ has_at st (map open_of rest) → ((o && (bytes_eq r.station st && s)) || has_open_in b st txs) ≡ has_at st (map open_of (cond (o && (s && o)) (r ∷ rest) rest))
    step true true rest more = λ i. and-true (bytes_eq r.station st) i || more i
    step true false rest more = ap (λ t. t || has_open_in b st txs) (and_false (bytes_eq r.station st)) ∙ more
    step false s rest more = more

module _ (b : List ℕ) where
  its_key : (st : List ℕ) (m : ℕ) (x : TxRow) → (bytes_eq x.op b && is_tx st m x) ≡ true → tx_key x ≡ b ∷ st ∷ (m ∷ []) ∷ []
  its_key st m x e =
      let all = and_parts (bytes_eq x.op b) (is_tx st m x) e in
      let rest = and_parts (bytes_eq x.station st) (x.number == m) all.1 in
      λ i. same_text x.op b all.0 i ∷ same_text x.station st rest.0 i ∷ ((Decides-eqb x.number m).0 rest.1 i ∷ []) ∷ []

  itself : (r : TxRow) → r.op ≡ b → (bytes_eq r.op b && is_tx r.station r.number r) ≡ true
  itself r its = λ i. text_itself r.op b its i && (text_itself r.station r.station refl i && (Decides-eqb r.number r.number).1 refl i)

  passed : (x r : TxRow) → r.op ≡ b → by_key tx_key x r ≡ Less → (bytes_eq x.op b && is_tx r.station r.number x) ≡ false
  passed x r its below =
      let k : List (List ℕ) = b ∷ r.station ∷ (r.number ∷ []) ∷ [] in
      elim (bytes_eq x.op b && is_tx r.station r.number x) as (λ t. (bytes_eq x.op b && is_tx r.station r.number x) ≡ t → t ≡ false) [
        | true ↦ λ e. (let clash : Equal ≡ Less = sym ((λ i. key_cmp (its_key r.station r.number x e i) (its_key r.station r.number r (itself r its) i)) ∙ tied_itself keys_total k) ∙ below in absurd (cc))
        | false ↦ λ e. refl
      ] refl

  -- a transaction of the operator is found by its station and number
  pub found_itself : (txs : List TxRow) → IsStrictlySortedBy (by_key tx_key) txs → AllByRecursion (λ r. r.op ≡ b → tx_of b txs (open_of r) ≡ Some r) txs
  unfolding IsStrictlySortedBy
  found_itself [] sorted = tt
  found_itself (x ∷ txs) sorted = (
    (λ its. ap (λ t. cond t (Some x) (tx_of b txs (open_of x))) (itself x its)),
    all-weaker (λ r. (by_key tx_key x r ≡ Less) × (r.op ≡ b → tx_of b txs (open_of r) ≡ Some r)) (λ r. r.op ≡ b → tx_of b (x ∷ txs) (open_of r) ≡ Some r)
        (λ r at its. ap (λ t. cond t (Some x) (tx_of b txs (open_of r))) (passed x r its at.0) ∙ at.1 its) txs
        (all-both (λ r. by_key tx_key x r ≡ Less) (λ r. r.op ≡ b → tx_of b txs (open_of r) ≡ Some r) txs sorted.0 (found_itself txs sorted.1)),
  )

  txs_of-map : (txs rs : List TxRow) → AllByRecursion (λ r. tx_of b txs (open_of r) ≡ Some r) rs → txs_of b txs (map open_of rs) ≡ rs
  txs_of-map txs [] all = refl
  txs_of-map txs (r ∷ rs) all = λ i. cons_option (all.0 i) (txs_of-map txs rs all.1 i)

  twice : (o s : Bool) → o && (s && o) ≡ o && s
  twice true s = and-true s
  twice false s = refl

  -- the open ones name all open transactions of the operator
  pub open-txs : (txs : List TxRow) → IsStrictlySortedBy (by_key tx_key) txs → txs_of b txs (opens_of is_open (λ r. r.op) b b txs) ≡ open_txs_in b txs
  open-txs txs sorted =
      let is : TxRow → Bool = (λ r. bytes_eq r.op b && is_open r) in
      ap (λ rs. txs_of b txs (map open_of rs)) (λ i. filter (λ r. twice (bytes_eq r.op b) (is_open r) i) txs)
      ∙ txs_of-map txs (open_txs_in b txs)
      (all-weaker (λ r. (is r ≡ true) × (r.op ≡ b → tx_of b txs (open_of r) ≡ Some r)) (λ r. tx_of b txs (open_of r) ≡ Some r)
      (λ r at. at.1 (same_text r.op b (and_parts (bytes_eq r.op b) (is_open r) at.0).0)) (filter is txs)
      (all-both (λ r. is r ≡ true) (λ r. r.op ≡ b → tx_of b txs (open_of r) ≡ Some r) (filter is txs) (all-passed is txs) (all-filter (λ r. r.op ≡ b → tx_of b txs (open_of r) ≡ Some r) is txs (found_itself txs sorted))))
