-- Rows kept station by station: what is found of them, and what more rows of one station make.
use Rattle.std.specs.Prelude.{◌≡◌, ℕ, ◌+◌, Some, ◌<◌, List, [], ◌∷◌, ◌++◌, take, drop, Bool, true, false, cond, ◌&&◌, ◌==◌, not, filter, map, find}
use Rattle.std.specs.List.{AllByRecursion}
use Rattle.std.specs.List.Sorted.{IsStrictlySortedBy}
use Rattle.std.specs.Ordering.{ordering_then, ordering_reverse, is_eq}
use Rattle.std.specs.Str.{bytes_eq}
use Rattle.std.specs.declared.cmp.Ordering.{Ordering}
use Rattle.std.specs.declared.cmp.Ordering.TheVariants.{Less, Equal, Greater}
use Rattle.std.proofs.Common.{refl, sym, ◌∙◌, ap, subst, append_assoc, append-nil}
use Rattle.std.proofs.Math.ListN.{set}
use Rattle.std.proofs.lemmas.Bool.{and_parts}
use Rattle.std.proofs.lemmas.List.{take-append-drop}
use Rattle.std.proofs.lemmas.List.Elements.{filter-append}
use Rattle.std.proofs.lemmas.List.Kept.{IsStrictlySortedBy-filter}
use Rattle.std.proofs.lemmas.Cmp.{tied_itself}
use Rattle.hub_rows.specs.Forgetting.{has_number, is_one_of}
use Rattle.hub_rows.specs.Keyed.{text_cmp, key_cmp, by_key, put_all, those, numbered_key, greatest, number_key}
use Rattle.hub_rows.specs.Places.{AllBelow, AllAbove, IsFoundAt, IsGapAt}
use Rattle.hub_rows.proofs.ListLaws.{keys_total, by_key_total, all-filter, all-weaker, put-front, sorted-put, set_here, two_parts, head, same_text}
use Rattle.hub_rows.proofs.PlaceLaws.{all-back, map-append, map-none, put-passed, put-gap}
use Rattle.store_mem.specs.declared.named_groups.NamedGroup.{NamedGroup}
use Rattle.store_mem.specs.NamedGroups.{group_key, is_at, rows_or_none, rows_at, all_rows, AreOf, AreGrouped}
use Rattle.store_mem.proofs.RowLaws.{sorted-kept, sorted-swap}
use Rattle.hub_rows.proofs.FilterLaws.{all-append, all-both, all-front, filter-alike, filter-all, filter-no}
use Rattle.hub_rows.proofs.NumberLaws.{all-above, number-greater, number-less, same_station}

-- ---- lists

pub map-same : {R : Type 0} (t u : R → Bool) (f : R → R) (xs : List R) → AllByRecursion (λ r. t r ≡ u r) xs → map (λ r. cond (t r) (f r) r) xs ≡ map (λ r. cond (u r) (f r) r) xs
map-same t u f [] all = refl
map-same t u f (x ∷ xs) all = λ i. cond (all.0 i) (f x) x ∷ map-same t u f xs all.1 i

-- ---- the order

-- rows of two lists in one
pub sorted-append : {R : Type 0} (cmp : R → R → Ordering) (xs ys : List R) → IsStrictlySortedBy cmp xs → IsStrictlySortedBy cmp ys → AllByRecursion (λ x. AllByRecursion (λ y. cmp x y ≡ Less) ys) xs → IsStrictlySortedBy cmp (xs ++ ys)
unfolding IsStrictlySortedBy
sorted-append cmp [] ys sorted more across = more
sorted-append cmp (x ∷ xs) ys sorted more across = (all-append (λ y. cmp x y ≡ Less) xs ys sorted.0 across.0, sorted-append cmp xs ys sorted.1 more across.1)

-- ---- parts of keys

then-less : (o p q : Ordering) → ordering_then o (ordering_then p Equal) ≡ Less → ordering_then o (ordering_then p q) ≡ Less
then-less Less p q e = refl
then-less Equal Less q e = refl
then-less Equal Equal q e = absurd (cc)
then-less Equal Greater q e = e
then-less Greater p q e = e

then-greater : (o p q : Ordering) → ordering_then o (ordering_then p Equal) ≡ Greater → ordering_then o (ordering_then p q) ≡ Greater
then-greater Less p q e = e
then-greater Equal Less q e = e
then-greater Equal Equal q e = absurd (cc)
then-greater Equal Greater q e = refl
then-greater Greater p q e = refl

and-false : (p q n : Bool) → p && q ≡ false → p && (q && n) ≡ false
and-false true true n e = absurd (cc)
and-false true false n e = refl
and-false false q n e = refl

and-true : (p q n : Bool) → p && q ≡ true → p && (q && n) ≡ n
and-true true true n e = refl
and-true true false n e = absurd (cc)
and-true false q n e = absurd (cc)

-- ---- the rows of all stations

pub all_rows-append : {R : Type 0} (ss ts : List (NamedGroup R)) → all_rows (ss ++ ts) ≡ all_rows ss ++ all_rows ts
all_rows-append [] ts = refl
all_rows-append (s ∷ ss) ts = ap (λ rs. s.rows.items ++ rs) (all_rows-append ss ts) ∙ sym (append_assoc s.rows.items (all_rows ss) (all_rows ts))

pub all-rows : {R : Type 0} (P : R → Type 0) (Q : NamedGroup R → Type 0) → ((s : NamedGroup R) → Q s → AllByRecursion P s.rows.items) → (ss : List (NamedGroup R)) → AllByRecursion Q ss → AllByRecursion P (all_rows ss)
all-rows P Q f [] all = tt
all-rows P Q f (s ∷ ss) all = all-append P s.rows.items (all_rows ss) (f s all.0) (all-rows P Q f ss all.1)

abbrev pub second : List (List ℕ) → List ℕ
second [] = []
second (k ∷ ks) = head ks

module _ {R : Type 0} (op station : R → List ℕ) (number : R → ℕ) (b st : List ℕ) where
  abbrev k : List (List ℕ)
  k = b ∷ st ∷ []

  abbrev key : R → List (List ℕ)
  key = numbered_key op station number

  abbrev mine : R → Bool
  mine r = bytes_eq (op r) b && bytes_eq (station r) st

  abbrev IsMine : R → Type 0
  IsMine r = (op r ≡ b) × (station r ≡ st)

  pub is_mine : (r : R) → IsMine r → mine r ≡ true
  is_mine r m = two_parts (op r) (station r) b st ∙ ap is_eq ((λ i. key_cmp (m.0 i ∷ m.1 i ∷ []) k) ∙ tied_itself keys_total k)

  all_mine : (rows : List R) → AllByRecursion IsMine rows → AllByRecursion (λ r. mine r ≡ true) rows
  all_mine rows all = all-weaker IsMine (λ r. mine r ≡ true) is_mine rows all

  -- the rows of a group of another station
  module _ (z : Ordering) (apart : is_eq z ≡ false) where
    group_not : (s : NamedGroup R) → AreOf op station number s.op s.name s.rows.items × (key_cmp (group_key s) k ≡ z) → AllByRecursion (λ r. mine r ≡ false) s.rows.items
    group_not s at =
        all-weaker (λ r. (op r ≡ s.op) × (station r ≡ s.name)) (λ r. mine r ≡ false)
        (λ r m. two_parts (op r) (station r) b st ∙ ap is_eq ((λ i. key_cmp (m.0 i ∷ m.1 i ∷ []) k) ∙ at.1) ∙ apart) s.rows.items at.0.mine

    groups_not : (ss : List (NamedGroup R)) → AllByRecursion (λ s. AreOf op station number s.op s.name s.rows.items) ss → AllByRecursion (λ s. key_cmp (group_key s) k ≡ z) ss → AllByRecursion (λ r. mine r ≡ false) (all_rows ss)
    groups_not ss each all = all-rows (λ r. mine r ≡ false) (λ s. AreOf op station number s.op s.name s.rows.items × (key_cmp (group_key s) k ≡ z)) group_not ss (all-both _ _ ss each all)

  -- what stands before, at and behind the place of the station
  pub record Parts (ss : List (NamedGroup R)) (front rows back : List R) : Type 0 where
    pub split : all_rows ss ≡ front ++ (rows ++ back)
    pub of_station : AreOf op station number b st rows
    pub front_not : AllByRecursion (λ r. mine r ≡ false) front
    pub back_not : AllByRecursion (λ r. mine r ≡ false) back
    pub front_less : (r : R) → IsMine r → AllByRecursion (λ y. by_key key r y ≡ Greater) front
    pub back_more : (r : R) → IsMine r → AllByRecursion (λ y. by_key key r y ≡ Less) back

  front_below : (ss : List (NamedGroup R)) → AllByRecursion (λ s. AreOf op station number s.op s.name s.rows.items) ss → AllBelow group_key k ss → (r : R) → IsMine r → AllByRecursion (λ y. by_key key r y ≡ Greater) (all_rows ss)
  front_below ss each all r m =
      all-rows (λ y. by_key key r y ≡ Greater) (λ s. AreOf op station number s.op s.name s.rows.items × (key_cmp (group_key s) k ≡ Less))
      (λ s at. all-weaker (λ y. (op y ≡ s.op) × (station y ≡ s.name)) (λ y. by_key key r y ≡ Greater)
      (λ y n. keys_total.antisymm (key r) (key y)
      ∙ ap ordering_reverse ((λ i. key_cmp (n.0 i ∷ n.1 i ∷ number_key number y) (m.0 i ∷ m.1 i ∷ number_key number r))
      ∙ then-less (text_cmp s.op b) (text_cmp s.name st) (key_cmp (number_key number y) (number_key number r)) at.1))
      s.rows.items at.0.mine)
      ss (all-both _ _ ss each all)

  back_above : (ss : List (NamedGroup R)) → AllByRecursion (λ s. AreOf op station number s.op s.name s.rows.items) ss → AllAbove group_key k ss → (r : R) → IsMine r → AllByRecursion (λ y. by_key key r y ≡ Less) (all_rows ss)
  back_above ss each all r m =
      all-rows (λ y. by_key key r y ≡ Less) (λ s. AreOf op station number s.op s.name s.rows.items × (key_cmp (group_key s) k ≡ Greater))
      (λ s at. all-weaker (λ y. (op y ≡ s.op) × (station y ≡ s.name)) (λ y. by_key key r y ≡ Less)
      (λ y n. keys_total.antisymm (key r) (key y)
      ∙ ap ordering_reverse ((λ i. key_cmp (n.0 i ∷ n.1 i ∷ number_key number y) (m.0 i ∷ m.1 i ∷ number_key number r))
      ∙ then-greater (text_cmp s.op b) (text_cmp s.name st) (key_cmp (number_key number y) (number_key number r)) at.1))
      s.rows.items at.0.mine)
      ss (all-both _ _ ss each all)

  pub parts-found : (ss : List (NamedGroup R)) (i : ℕ) → AreGrouped op station number ss → (at : IsFoundAt group_key k ss i) → Parts ss (all_rows (take i ss)) at.row.rows.items (all_rows (drop (i + 1) ss))
  parts-found ss i are at =
      let each = subst (AllByRecursion (λ s. AreOf op station number s.op s.name s.rows.items)) at.split are.each in
      let before = all-front (λ s. AreOf op station number s.op s.name s.rows.items) (take i ss) (at.row ∷ drop (i + 1) ss) each in
      let here = all-back (λ s. AreOf op station number s.op s.name s.rows.items) (take i ss) (at.row ∷ drop (i + 1) ss) each in
      record {
        split = ap all_rows at.split ∙ all_rows-append (take i ss) (at.row ∷ drop (i + 1) ss);
        of_station = subst (λ l. AreOf op station number (head l) (second l) at.row.rows.items) at.has_key here.0;
        front_not = groups_not Less refl (take i ss) before at.before;
        back_not = groups_not Greater refl (drop (i + 1) ss) here.1 at.after;
        front_less = front_below (take i ss) before at.before;
        back_more = back_above (drop (i + 1) ss) here.1 at.after;
      }

  pub parts-gap : (ss : List (NamedGroup R)) (i : ℕ) → AreGrouped op station number ss → IsGapAt group_key k ss i → Parts ss (all_rows (take i ss)) [] (all_rows (drop i ss))
  unfolding IsStrictlySortedBy
  parts-gap ss i are gap =
      let each = subst (AllByRecursion (λ s. AreOf op station number s.op s.name s.rows.items)) (sym (take-append-drop i ss)) are.each in
      let before = all-front (λ s. AreOf op station number s.op s.name s.rows.items) (take i ss) (drop i ss) each in
      let behind = all-back (λ s. AreOf op station number s.op s.name s.rows.items) (take i ss) (drop i ss) each in
      record {
        split = ap all_rows (sym (take-append-drop i ss)) ∙ all_rows-append (take i ss) (drop i ss);
        of_station = record { mine = tt; sorted = tt };
        front_not = groups_not Less refl (take i ss) before gap.before;
        back_not = groups_not Greater refl (drop i ss) behind gap.after;
        front_less = front_below (take i ss) before gap.before;
        back_more = back_above (drop i ss) behind gap.after;
      }

  -- the rows of the station
  pub those-parts : (ss : List (NamedGroup R)) (front rows back : List R) → Parts ss front rows back → those op b (λ r. bytes_eq (station r) st) (all_rows ss) ≡ rows
  those-parts ss front rows back parts =
      ap (filter mine) parts.split ∙ filter-append mine front (rows ++ back) ∙ ap (λ xs. filter mine front ++ xs) (filter-append mine rows back)
      ∙ (λ i. filter-no mine front parts.front_not i ++ (filter-all mine rows (all_mine rows parts.of_station.mine) i ++ filter-no mine back parts.back_not i))
      ∙ append-nil rows

  -- the same by a search for the group
  pub rows-those : (ss : List (NamedGroup R)) → AreGrouped op station number ss → rows_at b st ss ≡ those op b (λ r. bytes_eq (station r) st) (all_rows ss)
  unfolding IsStrictlySortedBy
  rows-those [] are = refl
  rows-those (s ∷ ss) are =
      let rest : AreGrouped op station number ss = record { sorted = are.sorted.1; each = are.each.1 } in
      elim (is_at b st s) as (λ t. is_at b st s ≡ t → rows_or_none (cond t (Some s) (find (is_at b st) ss)) ≡ filter mine (s.rows.items ++ all_rows ss)) [
        | true ↦ λ e.
            let same = and_parts (bytes_eq s.op b) (bytes_eq s.name st) e in
            let its_op = same_text s.op b same.0 in
            let its_name = same_text s.name st same.1 in
            let its_rows = all-weaker (λ r. (op r ≡ s.op) × (station r ≡ s.name)) (λ r. mine r ≡ true) (λ r m. is_mine r (m.0 ∙ its_op, m.1 ∙ its_name)) s.rows.items are.each.0.mine in
            let above = all-weaker (λ t. by_key group_key s t ≡ Less) (λ t. key_cmp (group_key t) k ≡ Greater)
            (λ t less. keys_total.antisymm (group_key t) k ∙ ap ordering_reverse ((λ i. key_cmp (sym its_op i ∷ sym its_name i ∷ []) (group_key t)) ∙ less)) ss are.sorted.0 in
            sym (filter-append mine s.rows.items (all_rows ss)
            ∙ (λ i. filter-all mine s.rows.items its_rows i ++ filter-no mine (all_rows ss) (groups_not Greater refl ss are.each.1 above) i) ∙ append-nil s.rows.items)
        | false ↦ λ e.
            let not_mine = all-weaker (λ r. (op r ≡ s.op) × (station r ≡ s.name)) (λ r. mine r ≡ false) (λ r m. (λ i. bytes_eq (m.0 i) b && bytes_eq (m.1 i) st) ∙ e) s.rows.items are.each.0.mine in
            rows-those ss rest ∙ sym (filter-append mine s.rows.items (all_rows ss) ∙ (λ i. filter-no mine s.rows.items not_mine i ++ filter mine (all_rows ss)))
      ] refl

  pub rows-sorted : (ss : List (NamedGroup R)) → AreGrouped op station number ss → IsStrictlySortedBy (by_key (number_key number)) (rows_at b st ss)
  unfolding IsStrictlySortedBy
  rows-sorted [] are = tt
  rows-sorted (s ∷ ss) are =
      elim (is_at b st s) as (λ t. IsStrictlySortedBy (by_key (number_key number)) (rows_or_none (cond t (Some s) (find (is_at b st) ss)))) [
        | true ↦ are.each.0.sorted
        | false ↦ rows-sorted ss (record { sorted = are.sorted.1; each = are.each.1 })
      ]

  -- a change of the row of a number
  pub changed-parts : (ss : List (NamedGroup R)) (front rows back : List R) (n : ℕ) (f : R → R) → Parts ss front rows back
      → map (λ r. cond (bytes_eq (op r) b && (bytes_eq (station r) st && number r == n)) (f r) r) (all_rows ss) ≡ front ++ (map (λ r. cond (number r == n) (f r) r) rows ++ back)
  changed-parts ss front rows back n f parts =
      let t : R → Bool = (λ r. bytes_eq (op r) b && (bytes_eq (station r) st && number r == n)) in
      let g : R → R = (λ r. cond (t r) (f r) r) in
      let none : (xs : List R) → AllByRecursion (λ r. mine r ≡ false) xs → map g xs ≡ xs = (λ xs all. map-none t f xs (all-weaker (λ r. mine r ≡ false) (λ r. t r ≡ false) (λ r e. and-false (bytes_eq (op r) b) (bytes_eq (station r) st) (number r == n) e) xs all)) in
      ap (map g) parts.split ∙ map-append g front (rows ++ back) ∙ ap (λ xs. map g front ++ xs) (map-append g rows back)
      ∙ (λ i. none front parts.front_not i ++ (map-same t (λ r. number r == n) f rows (all-weaker (λ r. mine r ≡ true) (λ r. t r ≡ (number r == n)) (λ r e. and-true (bytes_eq (op r) b) (bytes_eq (station r) st) (number r == n) e) rows (all_mine rows parts.of_station.mine)) i ++ none back parts.back_not i))

  -- the rows with some numbers are dropped
  abbrev goes : List ℕ → R → Bool
  goes numbers r = bytes_eq (op r) b && is_one_of station number st numbers r

  pub dropped-parts : (ss : List (NamedGroup R)) (front rows back : List R) (numbers : List ℕ) → Parts ss front rows back
      → filter (λ r. not (goes numbers r)) (all_rows ss) ≡ front ++ (filter (λ r. not (has_number numbers (number r))) rows ++ back)
  dropped-parts ss front rows back numbers parts =
      let stays : R → Bool = (λ r. not (goes numbers r)) in
      let all : (xs : List R) → AllByRecursion (λ r. mine r ≡ false) xs → filter stays xs ≡ xs = (λ xs none. filter-all stays xs (all-weaker (λ r. mine r ≡ false) (λ r. stays r ≡ true)
      (λ r e. ap not (and-false (bytes_eq (op r) b) (bytes_eq (station r) st) (has_number numbers (number r)) e)) xs none)) in
      ap (filter stays) parts.split ∙ filter-append stays front (rows ++ back) ∙ ap (λ xs. filter stays front ++ xs) (filter-append stays rows back)
      ∙ (λ i. all front parts.front_not i ++ (filter-alike stays (λ r. not (has_number numbers (number r))) rows
      (all-weaker (λ r. mine r ≡ true) (λ r. stays r ≡ not (has_number numbers (number r))) (λ r e. ap not (and-true (bytes_eq (op r) b) (bytes_eq (station r) st) (has_number numbers (number r)) e)) rows (all_mine rows parts.of_station.mine)) i
      ++ all back parts.back_not i))

  -- ---- more rows

  -- rows of one station are in the order of their keys
  mine_order : (x y : R) → IsMine x → IsMine y → by_key key x y ≡ by_key (number_key number) x y
  mine_order x y m n = (λ i. key_cmp (m.0 i ∷ m.1 i ∷ number_key number x) (n.0 i ∷ n.1 i ∷ number_key number y)) ∙ same_station b st (number_key number x) (number_key number y)

  of_keys : (rows : List R) → AllByRecursion IsMine rows → IsStrictlySortedBy (by_key (number_key number)) rows → IsStrictlySortedBy (by_key key) rows
  unfolding IsStrictlySortedBy
  of_keys [] all sorted = tt
  of_keys (x ∷ rows) all sorted = (all-weaker (λ y. IsMine y × (by_key (number_key number) x y ≡ Less)) (λ y. by_key key x y ≡ Less) (λ y at. mine_order x y all.0 at.0 ∙ at.1) rows (all-both _ _ rows all.1 sorted.0), of_keys rows all.1 sorted.1)

  -- new rows stand between what is below and what is above them
  put_all-between : (new front back : List R) → IsStrictlySortedBy (by_key key) new → AllByRecursion (λ r. AllByRecursion (λ y. by_key key r y ≡ Greater) front) new → AllByRecursion (λ r. AllByRecursion (λ y. by_key key r y ≡ Less) back) new
      → put_all (by_key key) new (front ++ back) ≡ front ++ (new ++ back)
  unfolding IsStrictlySortedBy
  put_all-between [] front back sorted low high = refl
  put_all-between (r ∷ new) front back sorted low high =
      ap (put_all (by_key key) new) (put-passed (by_key key) r front back low.0 ∙ ap (λ xs. front ++ xs) (put-front (by_key key) r back high.0) ∙ sym (append_assoc front (r ∷ []) back))
      ∙ put_all-between new (front ++ r ∷ []) back sorted.1
      (all-weaker (λ x. AllByRecursion (λ y. by_key key x y ≡ Greater) front × (by_key key r x ≡ Less)) (λ x. AllByRecursion (λ y. by_key key x y ≡ Greater) (front ++ r ∷ []))
      (λ x at. all-append (λ y. by_key key x y ≡ Greater) front (r ∷ []) at.0 (keys_total.antisymm (key x) (key r) ∙ ap ordering_reverse at.1, tt)) new (all-both _ _ new low.1 sorted.0))
      high.1
      ∙ append_assoc front (r ∷ []) (new ++ back)

  -- new rows of the station, behind those that it has
  module _ (ss : List (NamedGroup R)) (front rows back : List R) (parts : Parts ss front rows back) (new : List R) (are : AreOf op station number b st new)
      (behind : AllByRecursion (λ r. greatest (map number rows) < number r) new) where
    above : (r : R) → greatest (map number rows) < number r → AllByRecursion (λ y. number y < number r) rows
    above r below = all-above number (number r) rows below

    pub put-parts : put_all (by_key key) new (all_rows ss) ≡ front ++ ((rows ++ new) ++ back)
    put-parts =
        ap (put_all (by_key key) new) (parts.split ∙ sym (append_assoc front rows back))
        ∙ put_all-between new (front ++ rows) back (of_keys new are.mine are.sorted)
        (all-weaker (λ r. IsMine r × (greatest (map number rows) < number r)) (λ r. AllByRecursion (λ y. by_key key r y ≡ Greater) (front ++ rows))
        (λ r at. all-append (λ y. by_key key r y ≡ Greater) front rows (parts.front_less r at.0)
        (all-weaker (λ y. IsMine y × (number y < number r)) (λ y. by_key key r y ≡ Greater) (λ y n. mine_order r y at.0 n.0 ∙ number-greater (number r) (number y) n.1) rows
        (all-both _ _ rows parts.of_station.mine (above r at.1))))
        new (all-both _ _ new are.mine behind))
        (all-weaker IsMine (λ r. AllByRecursion (λ y. by_key key r y ≡ Less) back) (λ r m. parts.back_more r m) new are.mine)
        ∙ append_assoc front rows (new ++ back) ∙ ap (λ xs. front ++ xs) (sym (append_assoc rows new back))

    pub both-of : AreOf op station number b st (rows ++ new)
    both-of = record {
      mine = all-append IsMine rows new parts.of_station.mine are.mine;
      sorted = sorted-append (by_key (number_key number)) rows new parts.of_station.sorted are.sorted (across rows new (all-weaker (λ r. greatest (map number rows) < number r) (λ r. AllByRecursion (λ y. number y < number r) rows) above new behind));
    }
      where
        none : (xs : List R) → AllByRecursion (λ x. AllByRecursion (λ y. by_key (number_key number) x y ≡ Less) []) xs
        none [] = tt
        none (x ∷ xs) = (tt, none xs)

        onto : (n : R) (ns xs : List R) → AllByRecursion (λ x. number x < number n) xs → AllByRecursion (λ x. AllByRecursion (λ y. by_key (number_key number) x y ≡ Less) ns) xs → AllByRecursion (λ x. AllByRecursion (λ y. by_key (number_key number) x y ≡ Less) (n ∷ ns)) xs
        onto n ns [] low all = tt
        onto n ns (x ∷ xs) low all = ((number-less (number x) (number n) low.0, all.0), onto n ns xs low.1 all.1)

        across : (xs ns : List R) → AllByRecursion (λ r. AllByRecursion (λ y. number y < number r) xs) ns → AllByRecursion (λ x. AllByRecursion (λ y. by_key (number_key number) x y ≡ Less) ns) xs
        across xs [] all = none xs
        across xs (n ∷ ns) all = onto n ns xs all.0 (across xs ns all.1)

  -- ---- groups

  -- a group in the place of that of its station
  module _ (ss : List (NamedGroup R)) (i : ℕ) (good : AreGrouped op station number ss) (at : IsFoundAt group_key k ss i) (s : NamedGroup R)
      (same_op : s.op ≡ at.row.op) (same_station : s.name ≡ at.row.name) (of : AreOf op station number b st s.rows.items) where
    written : set ss i s ≡ take i ss ++ s ∷ drop (i + 1) ss
    written = set_here ss i s at.in_range

    pub set-rows : all_rows (set ss i s) ≡ all_rows (take i ss) ++ (s.rows.items ++ all_rows (drop (i + 1) ss))
    set-rows = ap all_rows written ∙ all_rows-append (take i ss) (s ∷ drop (i + 1) ss)

    pub set-groups : AreGrouped op station number (set ss i s)
    set-groups =
        let each = subst (AllByRecursion (λ t. AreOf op station number t.op t.name t.rows.items)) at.split good.each in
        let its_op : b ≡ s.op = ap head (sym at.has_key) ∙ sym same_op in
        let its_station : st ≡ s.name = ap second (sym at.has_key) ∙ sym same_station in
        let here : AreOf op station number s.op s.name s.rows.items = subst (λ o. AreOf op station number o s.name s.rows.items) its_op (subst (λ t. AreOf op station number b t s.rows.items) its_station of) in
        subst (AreGrouped op station number) (sym written) (record {
          sorted = sorted-swap group_key (take i ss) (drop (i + 1) ss) at.row s (λ j. same_op j ∷ same_station j ∷ []) (subst (IsStrictlySortedBy (by_key group_key)) at.split good.sorted);
          each = all-append (λ t. AreOf op station number t.op t.name t.rows.items) (take i ss) (s ∷ drop (i + 1) ss)
              (all-front (λ t. AreOf op station number t.op t.name t.rows.items) (take i ss) (at.row ∷ drop (i + 1) ss) each)
              (here, (all-back (λ t. AreOf op station number t.op t.name t.rows.items) (take i ss) (at.row ∷ drop (i + 1) ss) each).1);
        })

  -- a group of a new station
  module _ (ss : List (NamedGroup R)) (i : ℕ) (good : AreGrouped op station number ss) (s : NamedGroup R) (its_op : s.op ≡ b) (its_station : s.name ≡ st)
      (gap : IsGapAt group_key k ss i) (of : AreOf op station number b st s.rows.items) where
    its_key : k ≡ group_key s
    its_key = λ j. sym its_op j ∷ sym its_station j ∷ []

    pub insert-rows : all_rows (take i ss ++ s ∷ drop i ss) ≡ all_rows (take i ss) ++ (s.rows.items ++ all_rows (drop i ss))
    insert-rows = all_rows-append (take i ss) (s ∷ drop i ss)

    pub insert-groups : AreGrouped op station number (take i ss ++ s ∷ drop i ss)
    insert-groups =
        let each = subst (AllByRecursion (λ t. AreOf op station number t.op t.name t.rows.items)) (sym (take-append-drop i ss)) good.each in
        let here : AreOf op station number s.op s.name s.rows.items = subst (λ o. AreOf op station number o s.name s.rows.items) (sym its_op) (subst (λ t. AreOf op station number b t s.rows.items) (sym its_station) of) in
        record {
          sorted = subst (IsStrictlySortedBy (by_key group_key)) (put-gap group_key s ss i (subst (λ l. IsGapAt group_key l ss i) its_key gap)) (sorted-put (by_key group_key) (by_key_total group_key) s ss good.sorted);
          each = all-append (λ t. AreOf op station number t.op t.name t.rows.items) (take i ss) (s ∷ drop i ss)
              (all-front (λ t. AreOf op station number t.op t.name t.rows.items) (take i ss) (drop i ss) each)
              (here, all-back (λ t. AreOf op station number t.op t.name t.rows.items) (take i ss) (drop i ss) each);
        }

  -- a change of the row of a number keeps what the rows are
  pub of-changed : (n : ℕ) (f : R → R) → ((r : R) → (op (f r) ≡ op r) × ((station (f r) ≡ station r) × (number (f r) ≡ number r))) → (rows : List R) → AreOf op station number b st rows
      → AreOf op station number b st (map (λ r. cond (number r == n) (f r) r) rows)
  of-changed n f same rows are = record {
    mine = mines rows are.mine;
    sorted = sorted-kept (number_key number) (λ r. cond (number r == n) (f r) r)
        (λ r. elim (number r == n) as (λ t. number_key number (cond t (f r) r) ≡ number_key number r) [ true ↦ ap (λ m. (m ∷ []) ∷ []) (same r).1.1 | false ↦ refl ]) rows are.sorted;
  }
    where
      mines : (rows : List R) → AllByRecursion IsMine rows → AllByRecursion IsMine (map (λ r. cond (number r == n) (f r) r) rows)
      mines [] all = tt
      mines (x ∷ rows) all = (elim (number x == n) as (λ t. IsMine (cond t (f x) x)) [ true ↦ ((same x).0 ∙ all.0.0, (same x).1.0 ∙ all.0.1) | false ↦ all.0 ], mines rows all.1)

  pub of-filter : (keeps : R → Bool) (rows : List R) → AreOf op station number b st rows → AreOf op station number b st (filter keeps rows)
  of-filter keeps rows are = record { mine = all-filter IsMine keeps rows are.mine; sorted = IsStrictlySortedBy-filter (by_key (number_key number)) keeps rows are.sorted }

  -- ---- what becomes of the rows of a station

  abbrev IsChanged : List (NamedGroup R) → List R → Type 0
  IsChanged ss rows = AreGrouped op station number ss × (all_rows ss ≡ rows)

  module _ (ss : List (NamedGroup R)) (i : ℕ) (good : AreGrouped op station number ss) (at : IsFoundAt group_key k ss i) (s : NamedGroup R)
      (same_op : s.op ≡ at.row.op) (same_station : s.name ≡ at.row.name) where
    its_parts : Parts ss (all_rows (take i ss)) at.row.rows.items (all_rows (drop (i + 1) ss))
    its_parts = parts-found ss i good at

    changed_to : (rows : List R) → AreOf op station number b st rows → s.rows.items ≡ rows → IsChanged (set ss i s) (all_rows (take i ss) ++ (rows ++ all_rows (drop (i + 1) ss)))
    changed_to rows of are =
        let mine_now = subst (AreOf op station number b st) (sym are) of in
        (set-groups ss i good at s same_op same_station mine_now, set-rows ss i good at s same_op same_station mine_now ∙ ap (λ xs. all_rows (take i ss) ++ (xs ++ all_rows (drop (i + 1) ss))) are)

    pub set-same : s.rows.items ≡ at.row.rows.items → IsChanged (set ss i s) (all_rows ss)
    set-same are = let to = changed_to at.row.rows.items its_parts.of_station are in (to.0, to.1 ∙ sym its_parts.split)

    pub set-more : (new : List R) → AreOf op station number b st new → AllByRecursion (λ r. greatest (map number (those op b (λ x. bytes_eq (station x) st) (all_rows ss))) < number r) new → s.rows.items ≡ at.row.rows.items ++ new
        → IsChanged (set ss i s) (put_all (by_key key) new (all_rows ss))
    set-more new are_new behind are =
        let behind_these = subst (λ xs. AllByRecursion (λ r. greatest (map number xs) < number r) new) (those-parts ss (all_rows (take i ss)) at.row.rows.items (all_rows (drop (i + 1) ss)) its_parts) behind in
        let to = changed_to (at.row.rows.items ++ new) (both-of ss (all_rows (take i ss)) at.row.rows.items (all_rows (drop (i + 1) ss)) its_parts new are_new behind_these) are in
        (to.0, to.1 ∙ sym (put-parts ss (all_rows (take i ss)) at.row.rows.items (all_rows (drop (i + 1) ss)) its_parts new are_new behind_these))

    pub set-dropped : (numbers : List ℕ) → s.rows.items ≡ filter (λ r. not (has_number numbers (number r))) at.row.rows.items → IsChanged (set ss i s) (filter (λ r. not (goes numbers r)) (all_rows ss))
    set-dropped numbers are =
        let kept : List R = filter (λ r. not (has_number numbers (number r))) at.row.rows.items in
        let to = changed_to kept (of-filter (λ r. not (has_number numbers (number r))) at.row.rows.items its_parts.of_station) are in
        (to.0, to.1 ∙ sym (dropped-parts ss (all_rows (take i ss)) at.row.rows.items (all_rows (drop (i + 1) ss)) numbers its_parts))

    pub set-changed : (n : ℕ) (f : R → R) → ((r : R) → (op (f r) ≡ op r) × ((station (f r) ≡ station r) × (number (f r) ≡ number r))) → s.rows.items ≡ map (λ r. cond (number r == n) (f r) r) at.row.rows.items
        → IsChanged (set ss i s) (map (λ r. cond (bytes_eq (op r) b && (bytes_eq (station r) st && number r == n)) (f r) r) (all_rows ss))
    set-changed n f same are =
        let to = changed_to (map (λ r. cond (number r == n) (f r) r) at.row.rows.items) (of-changed n f same at.row.rows.items its_parts.of_station) are in
        (to.0, to.1 ∙ sym (changed-parts ss (all_rows (take i ss)) at.row.rows.items (all_rows (drop (i + 1) ss)) n f its_parts))

  module _ (ss : List (NamedGroup R)) (i : ℕ) (good : AreGrouped op station number ss) (gap : IsGapAt group_key k ss i) where
    no_parts : Parts ss (all_rows (take i ss)) [] (all_rows (drop i ss))
    no_parts = parts-gap ss i good gap

    pub insert-more : (s : NamedGroup R) → s.op ≡ b → s.name ≡ st → AreOf op station number b st s.rows.items → AllByRecursion (λ r. greatest (map number (those op b (λ x. bytes_eq (station x) st) (all_rows ss))) < number r) s.rows.items
        → IsChanged (take i ss ++ s ∷ drop i ss) (put_all (by_key key) s.rows.items (all_rows ss))
    insert-more s its_op its_station are behind =
        let behind_these = subst (λ xs. AllByRecursion (λ r. greatest (map number xs) < number r) s.rows.items) (those-parts ss (all_rows (take i ss)) [] (all_rows (drop i ss)) no_parts) behind in
        (insert-groups ss i good s its_op its_station gap are, insert-rows ss i good s its_op its_station gap are ∙ sym (put-parts ss (all_rows (take i ss)) [] (all_rows (drop i ss)) no_parts s.rows.items are behind_these))

    -- a group with no rows is put there
    pub insert-none : (s : NamedGroup R) → s.op ≡ b → s.name ≡ st → s.rows.items ≡ [] → IsChanged (take i ss ++ s ∷ drop i ss) (all_rows ss)
    insert-none s its_op its_station are =
        let of = subst (AreOf op station number b st) (sym are) no_parts.of_station in
        (insert-groups ss i good s its_op its_station gap of, insert-rows ss i good s its_op its_station gap of ∙ ap (λ xs. all_rows (take i ss) ++ (xs ++ all_rows (drop i ss))) are ∙ sym no_parts.split)

    pub dropped-none : (numbers : List ℕ) → filter (λ r. not (goes numbers r)) (all_rows ss) ≡ all_rows ss
    dropped-none numbers = dropped-parts ss (all_rows (take i ss)) [] (all_rows (drop i ss)) numbers no_parts ∙ sym no_parts.split

    pub changed-none : (n : ℕ) (f : R → R) → map (λ r. cond (bytes_eq (op r) b && (bytes_eq (station r) st && number r == n)) (f r) r) (all_rows ss) ≡ all_rows ss
    changed-none n f = changed-parts ss (all_rows (take i ss)) [] (all_rows (drop i ss)) n f no_parts ∙ sym no_parts.split
