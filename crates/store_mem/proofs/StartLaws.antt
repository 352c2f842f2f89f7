-- The starts of each station in the order of their times: the first that is equal to one, and the
-- starts after a change.
use Rattle.std.specs.Prelude.{◌≡◌, ℕ, ℤ, pos, negsuc, zero, suc, pred, unsigned_abs, ◌<◌, List, [], ◌∷◌, take, drop, Bool, true, false, cond, ◌&&◌, ◌==◌, Option, None, Some, map, filter, find}
use Rattle.std.specs.List.{AllByRecursion, slice_get}
use Rattle.std.specs.List.Sorted.{IsStrictlySortedBy}
use Rattle.std.specs.Cmp.{signed_Decides}
use Rattle.std.specs.Int.{is_negative}
use Rattle.std.specs.Option.{option_map}
use Rattle.std.specs.Ordering.{ordering_then, int_eq, is_eq}
use Rattle.std.specs.Str.{bytes_eq}
use Rattle.std.specs.declared.cmp.Ordering.{Ordering}
use Rattle.std.specs.declared.cmp.Ordering.TheVariants.{Less, Equal, Greater}
use Rattle.std.proofs.Common.{refl, sym, ◌∙◌, ap, subst, arith}
use Rattle.std.proofs.lemmas.Bool.Decides.{Decides-eqb}
use Rattle.std.proofs.lemmas.Bool.{and_parts, true≢false}
use Rattle.std.proofs.lemmas.Cmp.{tied_itself, nat_list_cmp_total}
use Rattle.hub_rows.specs.declared.tx_row.StartKey.{StartKey}
use Rattle.hub_rows.specs.declared.tx_row.Stop.{Stop}
use Rattle.hub_rows.specs.declared.tx_row.TxRow.{TxRow}
use Rattle.hub_rows.specs.Changes.{with_stop}
use Rattle.hub_rows.specs.Keyed.{text_cmp, key_cmp, by_key, put, in_order, those, changed, first, greatest}
use Rattle.hub_rows.specs.Places.{IsFoundAt, IsGapAt}
use Rattle.hub_rows.specs.Rows.{tx_key}
use Rattle.hub_rows.specs.Transactions.{is_start, is_tx, same_start_in}
use Rattle.hub_rows.proofs.GrantLaws.{second}
use Rattle.hub_rows.proofs.ListLaws.{keys_total, by_key_total, all-weaker, filter-put, filter-put_not, put-agree, ties_key, same_key, same_text, head}
use Rattle.hub_rows.proofs.OrderLaws.{find-first, in_order-sorted, filter-in_order, in_order-put}
use Rattle.hub_rows.proofs.PlaceLaws.{find-none}
use Rattle.store_mem.proofs.DroppedLaws.{all-passed}
use Rattle.store_mem.specs.declared.starts.StartRow.{StartRow}
use Rattle.store_mem.specs.declared.named_groups.NamedGroup.{NamedGroup}
use Rattle.store_mem.specs.NamedGroups.{rows_at, AreInPlace}
use Rattle.store_mem.specs.Starts.{sign, code, start_key, start_of, starts_of, AreStarts, number_of}
use Rattle.std.proofs.lemmas.Map.Text.{is_eq-slice_cmp}
use Rattle.store_mem.proofs.ReceivedLaws.{map-filter, map-put}
use Rattle.hub_rows.proofs.FilterLaws.{all-both}
use Rattle.hub_rows.proofs.NumberLaws.{all-above, found-those, number-greater, those-those}

-- ---- equal starts have one code

not_negative : (m : ℕ) → is_negative (pos m) ≡ false
not_negative m = grind arith

one_number : (z w : ℤ) → ((unsigned_abs z == unsigned_abs w) && (sign z == sign w)) ≡ true → z ≡ w
one_number (pos m) (pos n) e = ap pos ((Decides-eqb m n).0 (and_parts (m == n) (sign (pos m) == sign (pos n)) e).0)
one_number (pos m) (negsuc n) e = absurd (true≢false (sym (and_parts (m == suc n) (sign (pos m) == 1) e).1 ∙ (λ i. cond (not_negative m i) 1 0 == 1)))
one_number (negsuc m) (pos n) e = absurd (true≢false (sym (and_parts (suc m == n) (1 == sign (pos n)) e).1 ∙ (λ i. 1 == cond (not_negative n i) 1 0)))
one_number (negsuc m) (negsuc n) e = ap negsuc (ap pred ((Decides-eqb (suc m) (suc n)).0 (and_parts (suc m == suc n) true e).0))

alike : (z w : ℤ) → z ≡ w → ((unsigned_abs z == unsigned_abs w) && (sign z == sign w)) ≡ true
alike z w e = ap (λ y. (unsigned_abs z == unsigned_abs y) && (sign z == sign y)) (sym e) ∙ (λ i. (Decides-eqb (unsigned_abs z) (unsigned_abs z)).1 refl i && (Decides-eqb (sign z) (sign z)).1 refl i)

both_or_none : (a b : Bool) → (a ≡ true → b ≡ true) → (b ≡ true → a ≡ true) → a ≡ b
both_or_none true b to from = sym (to refl)
both_or_none false true to from = from refl
both_or_none false false to from = refl

same_number : (z w : ℤ) → (unsigned_abs z == unsigned_abs w) && (sign z == sign w) ≡ int_eq z w
same_number z w =
    both_or_none ((unsigned_abs z == unsigned_abs w) && (sign z == sign w)) (int_eq z w)
    (λ e. (signed_Decides z w).1 (one_number z w e)) (λ e. alike z w ((signed_Decides z w).0 e))

turned : (a s m t c k : Bool) → a && (s && (m && (t && (c && k)))) ≡ c && (k && ((m && t) && (a && s)))
turned a s m t c k = grind arith

pub same_code : (k s : StartKey) → bytes_eq (code s) (code k) ≡ is_start k s
same_code k s =
    turned (unsigned_abs s.at == unsigned_abs k.at) (sign s.at == sign k.at) (unsigned_abs s.meter_start == unsigned_abs k.meter_start) (sign s.meter_start == sign k.meter_start) (s.connector == k.connector) (bytes_eq s.key k.key)
    ∙ (λ i. (s.connector == k.connector) && (bytes_eq s.key k.key && (same_number s.meter_start k.meter_start i && same_number s.at k.at i)))

-- ---- the first that is equal

abbrev same : StartKey → StartRow → Bool
same k r = bytes_eq (code r.start) (code k)

tied : (s t : List ℕ) → s ≡ t → text_cmp s t ≡ Equal
tied s t e = ap (text_cmp s) (sym e) ∙ tied_itself nat_list_cmp_total s

-- the first row from the place of a start on, if it is equal
abbrev pub if_same : StartKey → Option StartRow → Option StartRow
if_same k None = None
if_same k (Some r) = cond (is_start k r.start) (Some r) None

-- rows of one station in the order of their numbers, with one start, are in the order of starts
under_number : (o p q n : Ordering) → o ≡ Equal → p ≡ Equal → q ≡ Equal → ordering_then o (ordering_then p n) ≡ Less → ordering_then q n ≡ Less
under_number o p q n same_o same_p same_q below = ap (λ z. ordering_then z n) same_q ∙ sym (λ i. ordering_then (same_o i) (ordering_then (same_p i) n)) ∙ below

module _ (b st : List ℕ) (k : StartKey) where
  -- a transaction of the station with that start
  abbrev is_one : TxRow → Bool
  is_one r = bytes_eq r.op b && (bytes_eq r.station st && same k (start_of r))

  abbrev by_start : TxRow → TxRow → Ordering
  by_start x y = by_key start_key (start_of x) (start_of y)

  record IsOne (r : TxRow) : Type 0 where
    op : r.op ≡ b
    station : r.station ≡ st
    start : code r.start.id ≡ code k

  its_parts : (r : TxRow) → is_one r ≡ true → IsOne r
  its_parts r e =
      let all = and_parts (bytes_eq r.op b) (bytes_eq r.station st && same k (start_of r)) e in
      let rest = and_parts (bytes_eq r.station st) (same k (start_of r)) all.1 in
      record { op = same_text r.op b all.0; station = same_text r.station st rest.0; start = same_text (code r.start.id) (code k) rest.1 }

  above : (r : TxRow) (txs : List TxRow) → IsOne r → AllByRecursion (λ x. by_key tx_key r x ≡ Less) txs → AllByRecursion (λ x. by_start r x ≡ Less) (filter is_one txs)
  above r [] one all = tt
  above r (x ∷ txs) one all =
      elim (is_one x) as (λ t. is_one x ≡ t → AllByRecursion (λ x. by_start r x ≡ Less) (cond t (x ∷ filter is_one txs) (filter is_one txs))) [
        | true ↦ λ e. let that = its_parts x e in (
          under_number (text_cmp r.op x.op) (text_cmp r.station x.station) (text_cmp (code r.start.id) (code x.start.id)) (key_cmp ((r.number ∷ []) ∷ []) ((x.number ∷ []) ∷ []))
              (tied r.op x.op (one.op ∙ sym that.op)) (tied r.station x.station (one.station ∙ sym that.station)) (tied (code r.start.id) (code x.start.id) (one.start ∙ sym that.start)) all.0,
          above r txs one all.1,
        )
        | false ↦ λ e. above r txs one all.1
      ] refl

  sorted-ones : (txs : List TxRow) → IsStrictlySortedBy (by_key tx_key) txs → IsStrictlySortedBy by_start (filter is_one txs)
  unfolding IsStrictlySortedBy
  sorted-ones [] sorted = tt
  sorted-ones (x ∷ txs) sorted =
      elim (is_one x) as (λ t. is_one x ≡ t → IsStrictlySortedBy by_start (cond t (x ∷ filter is_one txs) (filter is_one txs))) [
        | true ↦ λ e. (above x txs (its_parts x e) sorted.0, sorted-ones txs sorted.1)
        | false ↦ λ e. sorted-ones txs sorted.1
      ] refl

  map-all : (P : StartRow → Type 0) (rs : List TxRow) → AllByRecursion (λ r. P (start_of r)) rs → AllByRecursion P (map start_of rs)
  map-all P [] all = tt
  map-all P (r ∷ rs) all = (all.0, map-all P rs all.1)

  map-sorted : (rs : List TxRow) → IsStrictlySortedBy by_start rs → IsStrictlySortedBy (by_key start_key) (map start_of rs)
  unfolding IsStrictlySortedBy
  map-sorted [] sorted = tt
  map-sorted (r ∷ rs) sorted = (map-all (λ s. by_key start_key (start_of r) s ≡ Less) rs sorted.0, map-sorted rs sorted.1)

  find-map : (t : StartRow → Bool) (rs : List TxRow) → option_map (λ s. s.number) (find t (map start_of rs)) ≡ option_map (λ r. r.number) (find (λ r. t (start_of r)) rs)
  find-map t [] = refl
  find-map t (r ∷ rs) =
      elim (t (start_of r)) as (λ z. option_map (λ s. s.number) (cond z (Some (start_of r)) (find t (map start_of rs))) ≡ option_map (λ r. r.number) (cond z (Some r) (find (λ r. t (start_of r)) rs))) [
        | true ↦ refl
        | false ↦ find-map t rs
      ]

  -- the starts that are equal, in the order of starts, are in that of the numbers
  same-in_order : (txs : List TxRow) → IsStrictlySortedBy (by_key tx_key) txs → filter (same k) (in_order (by_key start_key) (starts_of b st txs)) ≡ filter (same k) (starts_of b st txs)
  same-in_order txs sorted =
      let rs : List TxRow = those (λ r. r.op) b (λ r. bytes_eq r.station st) txs in
      let ones : filter (same k) (map start_of rs) ≡ map start_of (filter is_one txs) =
      sym (map-filter start_of (same k) rs) ∙ ap (map start_of) (sym (those-those (λ r. r.op) b (λ r. bytes_eq r.station st) (λ r. same k (start_of r)) txs)) in
      filter-in_order (by_key start_key) (by_key_total start_key) (same k) (ties_key start_key (λ l. bytes_eq (head l) (code k))) (starts_of b st txs)
      ∙ in_order-sorted (by_key start_key) (filter (same k) (map start_of rs)) (subst (IsStrictlySortedBy (by_key start_key)) (sym ones) (map-sorted (filter is_one txs) (sorted-ones txs sorted)))

  -- the first equal start is that of the first transaction with it
  pub number-first : (ss : List (NamedGroup StartRow)) (txs : List TxRow) → IsStrictlySortedBy (by_key tx_key) txs → AreStarts ss txs → number_of k (rows_at b st ss) ≡ same_start_in b st k txs
  number-first ss txs sorted are =
      let rs : List TxRow = those (λ r. r.op) b (λ r. bytes_eq r.station st) txs in
      (λ i. option_map (λ s. s.number) (find (λ s. sym (same_code k s.start) i) (are.each b st i)))
      ∙ ap (option_map (λ s. s.number)) (find-first (same k) (in_order (by_key start_key) (starts_of b st txs)) ∙ ap first (same-in_order txs sorted) ∙ sym (find-first (same k) (map start_of rs)))
      ∙ (λ i. option_map (λ s. s.number) (find (λ s. same_code k s.start i) (map start_of rs)))
      ∙ find-map (λ s. is_start k s.start) rs
      ∙ sym (ap (option_map (λ r. r.number)) (found-those (λ r. r.op) b (λ r. bytes_eq r.station st) (λ r. is_start k r.start.id) txs))

-- ---- its place

module _ (k : StartKey) where
  equal-tied : (r : StartRow) → is_start k r.start ≡ true → text_cmp (code r.start) (code k) ≡ Equal
  equal-tied r e = tied (code r.start) (code k) (same_text (code r.start) (code k) (same_code k r.start ∙ e))

  not_equal : (r : StartRow) → (text_cmp (code r.start) (code k) ≡ Equal → ⊥) → is_start k r.start ≡ false
  not_equal r apart =
      elim (is_start k r.start) as (λ t. is_start k r.start ≡ t → t ≡ false) [
        | true ↦ λ e. absurd (apart (equal-tied r e))
        | false ↦ λ e. refl
      ] refl

  not_below : (r : StartRow) → key_cmp (start_key r) (code k ∷ []) ≡ Less → is_start k r.start ≡ false
  not_below r below = not_equal r (λ e. (let clash : Greater ≡ Less = sym (ap (λ o. ordering_then o Greater) e) ∙ below in absurd (cc)))

  -- behind a row that is above and not equal none is equal
  not_behind : (x : StartRow) → is_start k x.start ≡ false → key_cmp (start_key x) (code k ∷ []) ≡ Greater → (y : StartRow) → by_key start_key x y ≡ Less → is_start k y.start ≡ false
  not_behind x other above y below =
      elim (is_start k y.start) as (λ t. is_start k y.start ≡ t → t ≡ false) [
        | true ↦ λ e.
            let one : code y.start ≡ code k = same_text (code y.start) (code k) (same_code k y.start ∙ e) in
            let apart : is_eq (text_cmp (code x.start) (code k)) ≡ false = is_eq-slice_cmp (code x.start) (code k) ∙ same_code k x.start ∙ other in
            absurd (clash (text_cmp (code x.start) (code k)) (key_cmp ((x.number ∷ []) ∷ []) ((y.number ∷ []) ∷ [])) apart above (ap (λ l. ordering_then (text_cmp (code x.start) l) (key_cmp ((x.number ∷ []) ∷ []) ((y.number ∷ []) ∷ []))) (sym one) ∙ below))
        | false ↦ λ e. refl
      ] refl
    where
      clash : (o n : Ordering) → is_eq o ≡ false → ordering_then o Greater ≡ Greater → ordering_then o n ≡ Less → ⊥
      clash Less n apart above below = absurd (cc)
      clash Equal n apart above below = true≢false apart
      clash Greater n apart above below = absurd (cc)

  pub find-placed : (rows : List StartRow) (i : ℕ) → IsStrictlySortedBy (by_key start_key) rows → IsGapAt start_key (code k ∷ []) rows i → find (λ r. is_start k r.start) rows ≡ if_same k (slice_get rows i)
  unfolding IsStrictlySortedBy
  find-placed rows i sorted gap = passed rows i sorted gap.before gap.after
    where
      behind : (x : StartRow) (xs : List StartRow) → AllByRecursion (λ y. by_key start_key x y ≡ Less) xs → key_cmp (start_key x) (code k ∷ []) ≡ Greater → cond (is_start k x.start) (Some x) (find (λ r. is_start k r.start) xs) ≡ cond (is_start k x.start) (Some x) None
      behind x xs all above =
          elim (is_start k x.start) as (λ t. is_start k x.start ≡ t → cond t (Some x) (find (λ r. is_start k r.start) xs) ≡ cond t (Some x) None) [
            | true ↦ λ e. refl
            | false ↦ λ e. find-none (λ r. is_start k r.start) xs (all-weaker (λ y. by_key start_key x y ≡ Less) (λ y. is_start k y.start ≡ false) (not_behind x e above) xs all)
          ] refl

      passed : (rows : List StartRow) (i : ℕ) → IsStrictlySortedBy (by_key start_key) rows → AllByRecursion (λ r. key_cmp (start_key r) (code k ∷ []) ≡ Less) (take i rows) → AllByRecursion (λ r. key_cmp (start_key r) (code k ∷ []) ≡ Greater) (drop i rows) → find (λ r. is_start k r.start) rows ≡ if_same k (slice_get rows i)
      passed [] i sorted before after = refl
      passed (x ∷ xs) zero sorted before after = behind x xs sorted.0 after.0
      passed (x ∷ xs) (suc i) sorted before after = ap (λ t. cond t (Some x) (find (λ r. is_start k r.start) xs)) (not_below x before.0) ∙ passed xs i sorted.1 before.1 after

  -- no row's key ends where that of a start does
  pub not_found : (rows : List StartRow) (i : ℕ) → IsFoundAt start_key (code k ∷ []) rows i → ⊥
  not_found rows i at = (let more : start_key at.row ≡ code k ∷ [] = at.has_key in absurd (cc))

-- ---- after a change

-- numbers before starts
abbrev number_first : StartRow → List (List ℕ)
number_first s = (s.number ∷ []) ∷ code s.start ∷ []

same_start : (x y : StartRow) → by_key number_first x y ≡ Equal → by_key start_key x y ≡ Equal
same_start x y e =
    let one = same_key (number_first x) (number_first y) e in
    (λ i. key_cmp (second (one i) ∷ head (one i) ∷ []) (start_key y)) ∙ tied_itself keys_total (start_key y)

same_first : (x y : StartRow) → by_key start_key x y ≡ Equal → by_key number_first x y ≡ Equal
same_first x y e =
    let one = same_key (start_key x) (start_key y) e in
    (λ i. key_cmp (second (one i) ∷ head (one i) ∷ []) (number_first y)) ∙ tied_itself keys_total (number_first y)

module _ (r : TxRow) (txs : List TxRow) (sorted : IsStrictlySortedBy (by_key tx_key) txs) where
  abbrev mine : List ℕ → List ℕ → TxRow → Bool
  mine b st x = bytes_eq x.op b && bytes_eq x.station st

  mine-ties : (b st : List ℕ) (x y : TxRow) → by_key tx_key x y ≡ Equal → mine b st x ≡ mine b st y
  mine-ties b st = ties_key tx_key (λ l. bytes_eq (head l) b && bytes_eq (second l) st)

  -- a new number is behind all others of its station
  puts-alike : (b st : List ℕ) → mine b st r ≡ true → (rs : List TxRow) → AllByRecursion (λ x. (mine b st x ≡ true) × (x.number < r.number)) rs → AllByRecursion (λ x. by_key tx_key r x ≡ by_key number_first (start_of r) (start_of x)) rs
  puts-alike b st is rs all =
      all-weaker (λ x. (mine b st x ≡ true) × (x.number < r.number)) (λ x. by_key tx_key r x ≡ by_key number_first (start_of r) (start_of x))
      (λ x at. alike x at.0 at.1) rs all
    where
      then-greater : (o p : Ordering) → ordering_then o Equal ≡ Greater → ordering_then o p ≡ Greater
      then-greater Less p e = e
      then-greater Equal p e = absurd (cc)
      then-greater Greater p e = refl

      alike : (x : TxRow) → mine b st x ≡ true → x.number < r.number → by_key tx_key r x ≡ by_key number_first (start_of r) (start_of x)
      alike x it below =
          let ours = and_parts (bytes_eq r.op b) (bytes_eq r.station st) is in
          let its = and_parts (bytes_eq x.op b) (bytes_eq x.station st) it in
          let behind = number-greater r.number x.number below in
          (λ i. ordering_then (tied r.op x.op (same_text r.op b ours.0 ∙ sym (same_text x.op b its.0)) i) (ordering_then (tied r.station x.station (same_text r.station st ours.1 ∙ sym (same_text x.station st its.1)) i) (behind i)))
          ∙ sym (then-greater (text_cmp (r.number ∷ []) (x.number ∷ [])) (key_cmp (code r.start.id ∷ []) (code x.start.id ∷ [])) behind)

  pub starts-put : (below : greatest (map (λ x. x.number) (those (λ x. x.op) r.op (λ x. bytes_eq x.station r.station) txs)) < r.number) (b st : List ℕ)
      → in_order (by_key start_key) (starts_of b st (put (by_key tx_key) r txs)) ≡ cond (bytes_eq r.op b && bytes_eq r.station st) (put (by_key start_key) (start_of r) (in_order (by_key start_key) (starts_of b st txs))) (in_order (by_key start_key) (starts_of b st txs))
  starts-put below b st =
      let rs : List TxRow = filter (mine b st) txs in
      elim (mine b st r) as (λ t. mine b st r ≡ t → in_order (by_key start_key) (starts_of b st (put (by_key tx_key) r txs)) ≡ cond t (put (by_key start_key) (start_of r) (in_order (by_key start_key) (starts_of b st txs))) (in_order (by_key start_key) (starts_of b st txs))) [
        | true ↦ λ e.
            let parts = and_parts (bytes_eq r.op b) (bytes_eq r.station st) e in
            let low : greatest (map (λ x. x.number) rs) < r.number = subst (λ o. greatest (map (λ x. x.number) (filter (λ x. bytes_eq x.op o && bytes_eq x.station st) txs)) < r.number) (same_text r.op b parts.0) (subst (λ u. greatest (map (λ x. x.number) (filter (λ x. bytes_eq x.op r.op && bytes_eq x.station u) txs)) < r.number) (same_text r.station st parts.1) below) in
            let behind = puts-alike b st e rs (all-both (λ x. mine b st x ≡ true) (λ x. x.number < r.number) rs (all-passed (mine b st) txs) (all-above (λ x. x.number) r.number rs low)) in
            ap (λ xs. in_order (by_key start_key) (map start_of xs)) (filter-put (by_key tx_key) (by_key_total tx_key) (mine b st) (mine-ties b st) r txs sorted e ∙ put-agree (by_key tx_key) (λ x y. by_key number_first (start_of x) (start_of y)) r rs behind)
            ∙ ap (in_order (by_key start_key)) (map-put start_of (by_key number_first) r rs)
            ∙ in_order-put (by_key start_key) (by_key_total start_key) (by_key number_first) same_start same_first (start_of r) (map start_of rs)
        | false ↦ λ e. ap (λ xs. in_order (by_key start_key) (map start_of xs)) (filter-put_not (by_key tx_key) (mine b st) (mine-ties b st) r txs e)
      ] refl

-- a stop leaves the starts
pub starts-stopped : (o t : List ℕ) (n : ℕ) (stop : Stop) (b st : List ℕ) (txs : List TxRow) → starts_of b st (changed (λ r. r.op) o (is_tx t n) (with_stop stop) txs) ≡ starts_of b st txs
starts-stopped o t n stop b st [] = refl
starts-stopped o t n stop b st (x ∷ txs) =
    let left : List TxRow = changed (λ r. r.op) o (is_tx t n) (with_stop stop) txs in
    let more : starts_of b st left ≡ starts_of b st txs = starts-stopped o t n stop b st txs in
    let mine : Bool = bytes_eq x.op b && bytes_eq x.station st in
    let rows : List TxRow → List TxRow = those (λ r. r.op) b (λ r. bytes_eq r.station st) in
    elim (bytes_eq x.op o && is_tx t n x) as (λ z. starts_of b st (cond z (with_stop stop x) x ∷ left) ≡ starts_of b st (x ∷ txs)) [
      | true ↦ behind (with_stop stop x) x mine (rows left) (rows txs) refl more
      | false ↦ behind x x mine (rows left) (rows txs) refl more
    ]
  where
    behind : (y x : TxRow) (t : Bool) (left rows : List TxRow) → start_of y ≡ start_of x → map start_of left ≡ map start_of rows → map start_of (cond t (y ∷ left) left) ≡ map start_of (cond t (x ∷ rows) rows)
    behind y x true left rows same more = λ i. same i ∷ more i
    behind y x false left rows same more = more

-- a start leaves the others, and is put among those of its station
pub starts-started : (o t : List ℕ) (r : TxRow) (s : StartRow) (txs now : List TxRow) (old new : List (NamedGroup StartRow)) → IsStrictlySortedBy (by_key tx_key) txs
    → greatest (map (λ x. x.number) (those (λ x. x.op) r.op (λ x. bytes_eq x.station r.station) txs)) < r.number → now ≡ put (by_key tx_key) r txs → r.op ≡ o → r.station ≡ t → s ≡ start_of r
    → AreStarts old txs → AreInPlace new
    → ((b st : List ℕ) → rows_at b st new ≡ cond (bytes_eq o b && bytes_eq t st) (put (by_key start_key) s (rows_at b st old)) (rows_at b st old))
    → AreStarts new now
starts-started o t r s txs now old new sorted below more its_op its_station its_start are in_place rows = record {
  in_place = in_place;
  each = λ b st. rows b st
      ∙ (λ i. cond (bytes_eq (sym its_op i) b && bytes_eq (sym its_station i) st) (put (by_key start_key) (its_start i) (are.each b st i)) (are.each b st i))
      ∙ sym (ap (λ xs. in_order (by_key start_key) (starts_of b st xs)) more ∙ starts-put r txs sorted below b st);
}
