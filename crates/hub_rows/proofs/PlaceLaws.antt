-- What stands at the place of a key, and what an edit there makes.
use Rattle.std.specs.Prelude.{◌≡◌, ℕ, zero, suc, ◌+◌, ◌<◌, ◌≤◌, None, Some, List, [], ◌∷◌, ◌++◌, length, take, drop, Bool, true, false, cond, map, find, Result, Ok, Err}
use Rattle.std.proofs.Common.{get_or, refl, sym, ◌∙◌, ap, subst, arith, add-one}
use Rattle.std.proofs.lemmas.List.{take-append-drop}
use Rattle.std.specs.Ordering.{match_ordering, ordering_reverse, ordering_index, is_eq}
use Rattle.std.specs.declared.cmp.Ordering.{Ordering}
use Rattle.std.specs.declared.cmp.Ordering.TheVariants.{Less, Equal, Greater}
use Rattle.std.specs.List.{AllByRecursion, HoldsAt}
use Rattle.std.specs.List.Sorted.{IsStrictlySortedBy, IsNonDecreasingBy, IsSearchInRange, IsBinarySearchResult}
use Rattle.std.proofs.lemmas.Cmp.{tied_itself}
use Rattle.hub_rows.specs.Keyed.{key_cmp, by_key, put}
use Rattle.hub_rows.specs.Places.{AllBelow, AllAbove, IsFoundAt, IsGapAt, IsPlace}
use Rattle.hub_rows.proofs.ListLaws.{keys_total, same_key, all-weaker, put-front}

-- ---- lists of two parts

pub all-at : {R : Type 0} (P : R → Type 0) (xs : List R) (i : ℕ) (d : R) → AllByRecursion P xs → i < length xs → P (get_or xs i d)
all-at P [] i d all within = absurd (omega arith)
all-at P (x ∷ xs) zero d all within = all.0
all-at P (x ∷ xs) (suc i) d all within = all-at P xs i d all.1 (omega arith)

pub all-middle : {R : Type 0} (P : R → Type 0) (front back : List R) (x : R) → AllByRecursion P (front ++ x ∷ back) → P x
all-middle P [] back x all = all.0
all-middle P (y ∷ front) back x all = all-middle P front back x all.1

pub all-back : {R : Type 0} (P : R → Type 0) (front back : List R) → AllByRecursion P (front ++ back) → AllByRecursion P back
all-back P [] back all = all
all-back P (y ∷ front) back all = all-back P front back all.1

pub find-passed : {R : Type 0} (t : R → Bool) (front back : List R) → AllByRecursion (λ r. t r ≡ false) front → find t (front ++ back) ≡ find t back
find-passed t [] back none = refl
find-passed t (y ∷ front) back none = ap (λ b. cond b (Some y) (find t (front ++ back))) none.0 ∙ find-passed t front back none.1

pub find-none : {R : Type 0} (t : R → Bool) (xs : List R) → AllByRecursion (λ r. t r ≡ false) xs → find t xs ≡ None
find-none t [] none = refl
find-none t (y ∷ xs) none = ap (λ b. cond b (Some y) (find t xs)) none.0 ∙ find-none t xs none.1

pub map-none : {R : Type 0} (t : R → Bool) (f : R → R) (xs : List R) → AllByRecursion (λ r. t r ≡ false) xs → map (λ r. cond (t r) (f r) r) xs ≡ xs
map-none t f [] none = refl
map-none t f (y ∷ xs) none = λ i. cond (none.0 i) (f y) y ∷ map-none t f xs none.1 i

pub map-append : {R S : Type 0} (f : R → S) (xs ys : List R) → map f (xs ++ ys) ≡ map f xs ++ map f ys
map-append f [] ys = refl
map-append f (x ∷ xs) ys = ap (λ zs. f x ∷ zs) (map-append f xs ys)

pub put-passed : {R : Type 0} (cmp : R → R → Ordering) (r : R) (front back : List R) → AllByRecursion (λ y. cmp r y ≡ Greater) front → put cmp r (front ++ back) ≡ front ++ put cmp r back
put-passed cmp r [] back all = refl
put-passed cmp r (y ∷ front) back all = ap (λ o. match_ordering o (r ∷ y ∷ (front ++ back)) (r ∷ (front ++ back)) (y ∷ put cmp r (front ++ back))) all.0 ∙ ap (λ zs. y ∷ zs) (put-passed cmp r front back all.1)

-- ---- a binary search

pub equal-of : (o : Ordering) → is_eq o ≡ true → o ≡ Equal
equal-of Less e = absurd (cc)
equal-of Equal e = refl
equal-of Greater e = absurd (cc)

turned : (k l : List (List ℕ)) (o : Ordering) → key_cmp k l ≡ o → key_cmp l k ≡ ordering_reverse o
turned k l o e = keys_total.antisymm l k ∙ ap ordering_reverse e

module _ {R : Type 0} (key : R → List (List ℕ)) (k : List (List ℕ)) where
  abbrev order : R → Ordering
  order r = key_cmp (key r) k

  rises-pair : (x y : R) → by_key key x y ≡ Less → ordering_index (order x) ≤ ordering_index (order y)
  rises-pair x y below =
      elim (order x) as (λ o. order x ≡ o → ordering_index o ≤ ordering_index (order y)) [
        | Less ↦ λ e. omega arith
        | Equal ↦ λ e. let above : order y ≡ Greater = turned k (key y) Less (ap (λ l. key_cmp l (key y)) (sym (same_key (key x) k e)) ∙ below) in rw above (omega arith)
        | Greater ↦ λ e. let above : order y ≡ Greater = turned k (key y) Less (keys_total.trans k (key x) (key y) (turned (key x) k Greater e) below) in rw above (omega arith)
      ] refl

  rises-all : (x : R) (xs : List R) (j : ℕ) (d : R) → AllByRecursion (λ y. by_key key x y ≡ Less) xs → j < length xs → ordering_index (order x) ≤ ordering_index (order (get_or xs j d))
  rises-all x xs j d below within = rises-pair x (get_or xs j d) (all-at (λ y. by_key key x y ≡ Less) xs j d below within)

  rises : (xs : List R) → IsStrictlySortedBy (by_key key) xs → IsNonDecreasingBy (λ y. ordering_index (order y)) xs
  unfolding IsStrictlySortedBy
  rises [] sorted i j d le within = absurd (omega arith)
  rises (x ∷ xs) sorted zero zero d le within = omega arith
  rises (x ∷ xs) sorted zero (suc j) d le within = rises-all x xs j d sorted.0 (omega arith)
  rises (x ∷ xs) sorted (suc i) zero d le within = absurd (omega arith)
  rises (x ∷ xs) sorted (suc i) (suc j) d le within = rises xs sorted.1 i j d (omega arith) (omega arith)

  after-suc : (rows : List R) (i : ℕ) → AllAbove key k (drop (suc i) rows) → AllAbove key k (drop (i + 1) rows)
  after-suc rows i all = rw add-one all

  split-suc : (rows : List R) (i : ℕ) (x : R) → rows ≡ take i rows ++ x ∷ drop (suc i) rows → rows ≡ take i rows ++ x ∷ drop (i + 1) rows
  split-suc rows i x e = rw add-one e

  record Split (rows : List R) (i : ℕ) : Type 0 where
    row : R
    here : (d : R) → get_or rows i d ≡ row
    split : rows ≡ take i rows ++ row ∷ drop (suc i) rows
    has_key : key row ≡ k
    before : AllBelow key k (take i rows)
    after : AllAbove key k (drop (suc i) rows)

  split-at : (rows : List R) (i : ℕ) → IsStrictlySortedBy (by_key key) rows → i < length rows → HoldsAt (λ y. order y ≡ Equal) rows i → Split rows i
  unfolding IsStrictlySortedBy
  split-at [] i sorted within equal = absurd (omega arith)
  split-at (x ∷ rows) zero sorted within equal =
      let here : key x ≡ k = same_key (key x) k (equal x) in
      record {
        row = x;
        here = λ d. refl;
        split = refl;
        has_key = here;
        before = tt;
        after = all-weaker (λ y. by_key key x y ≡ Less) (λ y. order y ≡ Greater) (λ y l. turned k (key y) Less (ap (λ m. key_cmp m (key y)) (sym here) ∙ l)) rows sorted.0;
      }
  split-at (x ∷ rows) (suc i) sorted within equal =
      let rest = split-at rows i sorted.1 (omega arith) (λ d. equal d) in
      let below : by_key key x rest.row ≡ Less = all-middle (λ y. by_key key x y ≡ Less) (take i rows) (drop (suc i) rows) rest.row (subst (AllByRecursion (λ y. by_key key x y ≡ Less)) rest.split sorted.0) in
      record {
        row = rest.row;
        here = rest.here;
        split = ap (λ ys. x ∷ ys) rest.split;
        has_key = rest.has_key;
        before = (ap (key_cmp (key x)) (sym rest.has_key) ∙ below, rest.before);
        after = rest.after;
      }

  all-index : (P : R → Type 0) (xs : List R) (i : ℕ) → ((j : ℕ) (d : R) → j < i → j < length xs → P (get_or xs j d)) → AllByRecursion P (take i xs)
  all-index P [] zero holds = tt
  all-index P [] (suc i) holds = tt
  all-index P (x ∷ xs) zero holds = tt
  all-index P (x ∷ xs) (suc i) holds = (holds 0 x (omega arith) (omega arith), all-index P xs i (λ j d below within. holds (suc j) d (omega arith) (omega arith)))

  all-rest : (P : R → Type 0) (xs : List R) (i : ℕ) → ((j : ℕ) (d : R) → i ≤ j → j < length xs → P (get_or xs j d)) → AllByRecursion P (drop i xs)
  all-rest P [] zero holds = tt
  all-rest P [] (suc i) holds = tt
  all-rest P (x ∷ xs) zero holds = (holds 0 x (omega arith) (omega arith), all-rest P xs 0 (λ j d from within. holds (suc j) d (omega arith) (omega arith)))
  all-rest P (x ∷ xs) (suc i) holds = all-rest P xs i (λ j d from within. holds (suc j) d (omega arith) (omega arith))

  -- what a binary search for the key finds in a list in the order of its keys
  pub placed : (rows : List R) (r : Result ℕ ℕ) → IsStrictlySortedBy (by_key key) rows → IsSearchInRange r (length rows) → IsBinarySearchResult order rows r → IsPlace key k rows r
  placed rows (Ok i) sorted within equal =
      let at = split-at rows i sorted within equal in
      record { row = at.row; in_range = within; here = at.here; split = split-suc rows i at.row at.split; has_key = at.has_key; before = at.before; after = after-suc rows i at.after }
  placed rows (Err i) sorted within parted =
      let parts = parted (rises rows sorted) in
      record {
        in_range = within;
        before = all-index (λ y. order y ≡ Less) rows i (λ j d below inside. parts.0 j d (omega arith) below);
        after = all-rest (λ y. order y ≡ Greater) rows i (λ j d from inside. parts.1 j d from inside);
      }

  -- ---- at the place

  fails-below : (t : R → Bool) → ((r : R) → t r ≡ is_eq (order r)) → (xs : List R) → AllBelow key k xs → AllByRecursion (λ r. t r ≡ false) xs
  fails-below t agrees xs all = all-weaker (λ r. order r ≡ Less) (λ r. t r ≡ false) (λ r e. agrees r ∙ ap is_eq e) xs all

  fails-above : (t : R → Bool) → ((r : R) → t r ≡ is_eq (order r)) → (xs : List R) → AllAbove key k xs → AllByRecursion (λ r. t r ≡ false) xs
  fails-above t agrees xs all = all-weaker (λ r. order r ≡ Greater) (λ r. t r ≡ false) (λ r e. agrees r ∙ ap is_eq e) xs all

  passes : (t : R → Bool) → ((r : R) → t r ≡ is_eq (order r)) → (r : R) → key r ≡ k → t r ≡ true
  passes t agrees r e = agrees r ∙ ap is_eq (ap (λ l. key_cmp l k) e ∙ tied_itself keys_total k)

  -- the row of a key is the one that a test of the key finds
  pub find-found : (t : R → Bool) → ((r : R) → t r ≡ is_eq (order r)) → (rows : List R) (i : ℕ) → (at : IsFoundAt key k rows i) → find t rows ≡ Some at.row
  find-found t agrees rows i at =
      ap (find t) at.split ∙ find-passed t (take i rows) (at.row ∷ drop (i + 1) rows) (fails-below t agrees (take i rows) at.before)
      ∙ ap (λ b. cond b (Some at.row) (find t (drop (i + 1) rows))) (passes t agrees at.row at.has_key)

  pub find-gap : (t : R → Bool) → ((r : R) → t r ≡ is_eq (order r)) → (rows : List R) (i : ℕ) → IsGapAt key k rows i → find t rows ≡ None
  find-gap t agrees rows i gap =
      ap (find t) (sym (take-append-drop i rows)) ∙ find-passed t (take i rows) (drop i rows) (fails-below t agrees (take i rows) gap.before)
      ∙ find-none t (drop i rows) (fails-above t agrees (drop i rows) gap.after)

  -- the change of that row is the change of all rows that pass the test
  pub map-found : (t : R → Bool) → ((r : R) → t r ≡ is_eq (order r)) → (f : R → R) (rows : List R) (i : ℕ) → (at : IsFoundAt key k rows i) → map (λ r. cond (t r) (f r) r) rows ≡ take i rows ++ f at.row ∷ drop (i + 1) rows
  map-found t agrees f rows i at =
      let g : R → R = λ r. cond (t r) (f r) r in
      ap (map g) at.split ∙ map-append g (take i rows) (at.row ∷ drop (i + 1) rows)
      ∙ (λ j. map-none t f (take i rows) (fails-below t agrees (take i rows) at.before) j ++ cond (passes t agrees at.row at.has_key j) (f at.row) at.row ∷ map-none t f (drop (i + 1) rows) (fails-above t agrees (drop (i + 1) rows) at.after) j)

  pub map-gap : (t : R → Bool) → ((r : R) → t r ≡ is_eq (order r)) → (f : R → R) (rows : List R) (i : ℕ) → IsGapAt key k rows i → map (λ r. cond (t r) (f r) r) rows ≡ rows
  map-gap t agrees f rows i gap =
      let g : R → R = λ r. cond (t r) (f r) r in
      ap (map g) (sym (take-append-drop i rows)) ∙ map-append g (take i rows) (drop i rows)
      ∙ (λ j. map-none t f (take i rows) (fails-below t agrees (take i rows) gap.before) j ++ map-none t f (drop i rows) (fails-above t agrees (drop i rows) gap.after) j)
      ∙ take-append-drop i rows

-- a row is put in place of the one with its key, or at its key's place
module _ {R : Type 0} (key : R → List (List ℕ)) (r : R) where
  greater : (xs : List R) → AllBelow key (key r) xs → AllByRecursion (λ y. by_key key r y ≡ Greater) xs
  greater xs all = all-weaker (λ y. key_cmp (key y) (key r) ≡ Less) (λ y. by_key key r y ≡ Greater) (λ y e. turned (key y) (key r) Less e) xs all

  less : (xs : List R) → AllAbove key (key r) xs → AllByRecursion (λ y. by_key key r y ≡ Less) xs
  less xs all = all-weaker (λ y. key_cmp (key y) (key r) ≡ Greater) (λ y. by_key key r y ≡ Less) (λ y e. turned (key y) (key r) Greater e) xs all

  pub put-found : (rows : List R) (i : ℕ) → IsFoundAt key (key r) rows i → put (by_key key) r rows ≡ take i rows ++ r ∷ drop (i + 1) rows
  put-found rows i at =
      ap (put (by_key key) r) at.split ∙ put-passed (by_key key) r (take i rows) (at.row ∷ drop (i + 1) rows) (greater (take i rows) at.before)
      ∙ ap (λ o. take i rows ++ match_ordering o (r ∷ at.row ∷ drop (i + 1) rows) (r ∷ drop (i + 1) rows) (at.row ∷ put (by_key key) r (drop (i + 1) rows)))
      (ap (key_cmp (key r)) at.has_key ∙ tied_itself keys_total (key r))

  pub put-gap : (rows : List R) (i : ℕ) → IsGapAt key (key r) rows i → put (by_key key) r rows ≡ take i rows ++ r ∷ drop i rows
  put-gap rows i gap =
      ap (put (by_key key) r) (sym (take-append-drop i rows)) ∙ put-passed (by_key key) r (take i rows) (drop i rows) (greater (take i rows) gap.before)
      ∙ ap (λ ys. take i rows ++ ys) (put-front (by_key key) r (drop i rows) (less (drop i rows) gap.after))
