-- The rows of one operator stand together, where rows are in the order of their operators and names.
use Rattle.std.specs.Prelude.{◌≡◌, ◌≢◌, ℕ, zero, suc, ◌+◌, List, [], ◌∷◌, ◌++◌, length, take, drop, Bool, true, false, cond, filter}
use Rattle.std.proofs.Common.{get_or, refl, sym, ◌∙◌, ap, subst, arith}
use Rattle.std.proofs.lemmas.Cmp.{tied_itself, nat_list_cmp_total}
use Rattle.std.proofs.lemmas.List.{take-append-drop}
use Rattle.std.proofs.lemmas.Map.Text.{is_eq-slice_cmp}
use Rattle.std.specs.List.{AllByRecursion, AllWithin}
use Rattle.std.specs.List.Sorted.{IsStrictlySortedBy, IsPartitionedBy, IsPartitionPoint}
use Rattle.std.specs.Ordering.{ordering_then, is_eq}
use Rattle.std.specs.Str.{bytes_eq}
use Rattle.std.specs.declared.cmp.Ordering.{Ordering}
use Rattle.std.specs.declared.cmp.Ordering.TheVariants.{Less, Equal, Greater}
use Rattle.hub_rows.specs.Keyed.{text_cmp, key_cmp, by_key, own, pair_key}
use Rattle.hub_rows.specs.Places.{AllBelow, AllAbove, IsFoundAt, IsGapAt}
use Rattle.hub_rows.proofs.ListLaws.{all-weaker, keys_total, same_text}
use Rattle.hub_rows.proofs.PlaceLaws.{all-at}
use Rattle.hub_rows.proofs.Steps.{drop_here}

-- ---- any rows

module _ {R : Type 0} (test : R → Bool) where
  none : (xs : List R) → AllWithin (λ r. test r ≡ false) xs 0 (length xs) → filter test xs ≡ []
  none [] fail = refl
  none (x ∷ xs) fail = ap (λ t. cond t (x ∷ filter test xs) (filter test xs)) (fail 0 x (omega arith) (omega arith)) ∙ none xs (λ k d from below. fail (suc k) d (omega arith) (omega arith))

  -- where those that pass are the first k
  first-pass : (xs : List R) (k : ℕ) → AllWithin (λ r. test r ≡ true) xs 0 k → AllWithin (λ r. test r ≡ false) xs k (length xs) → filter test xs ≡ take k xs
  first-pass [] zero pass fail = refl
  first-pass [] (suc k) pass fail = refl
  first-pass (x ∷ xs) zero pass fail = none (x ∷ xs) fail
  first-pass (x ∷ xs) (suc k) pass fail =
      ap (λ t. cond t (x ∷ filter test xs) (filter test xs)) (pass 0 x (omega arith) (omega arith))
      ∙ ap (λ ys. x ∷ ys) (first-pass xs k (λ j d from below. pass (suc j) d (omega arith) (omega arith)) (λ j d from below. fail (suc j) d (omega arith) (omega arith)))

  -- rows in front that don't pass
  passed : (front back : List R) → AllByRecursion (λ r. test r ≡ false) front → filter test (front ++ back) ≡ filter test back
  passed [] back fail = refl
  passed (x ∷ front) back fail = ap (λ t. cond t (x ∷ filter test (front ++ back)) (filter test (front ++ back))) fail.0 ∙ passed front back fail.1

sorted-drop : {R : Type 0} (cmp : R → R → Ordering) (rows : List R) (i : ℕ) → IsStrictlySortedBy cmp rows → IsStrictlySortedBy cmp (drop i rows)
unfolding IsStrictlySortedBy
sorted-drop cmp [] zero sorted = sorted
sorted-drop cmp [] (suc i) sorted = tt
sorted-drop cmp (r ∷ rows) zero sorted = sorted
sorted-drop cmp (r ∷ rows) (suc i) sorted = sorted-drop cmp rows i sorted.1

-- ---- names

tied : (s t : List ℕ) → s ≡ t → text_cmp s t ≡ Equal
tied s t e = ap (text_cmp s) (sym e) ∙ tied_itself nat_list_cmp_total s

-- no name is before the empty one
no_less : (s : List ℕ) → ordering_then (text_cmp s []) Equal ≡ Less → ⊥
no_less [] e = absurd (cc)
no_less (c ∷ s) e = absurd (cc)

-- ---- rows in the order of their operators and names

module _ {R : Type 0} (op name : R → List ℕ) (b : List ℕ) where
  abbrev key : R → List (List ℕ)
  key = pair_key op name

  -- no key of operator b is before it
  abbrev least : List (List ℕ)
  least = b ∷ [] ∷ []

  abbrev is_own : R → Bool
  is_own r = bytes_eq (op r) b

  -- its operator isn't before b
  abbrev IsFrom : R → Type 0
  IsFrom r = text_cmp (op r) b ≢ Less

  below-other : (r : R) → key_cmp (key r) least ≡ Less → is_own r ≡ false
  below-other r below =
      elim (is_own r) as (λ t. is_own r ≡ t → t ≡ false) [
        | true ↦ λ mine. absurd (no_less (name r) (sym (ap (λ o. ordering_then o (ordering_then (text_cmp (name r) []) Equal)) (tied (op r) b (same_text (op r) b mine))) ∙ below))
        | false ↦ λ other. refl
      ] refl

  pub before-place : (rows : List R) → AllBelow key least rows → AllByRecursion (λ r. is_own r ≡ false) rows
  before-place rows all = all-weaker (λ r. key_cmp (key r) least ≡ Less) (λ r. is_own r ≡ false) below-other rows all

  not_below : (r : R) → key_cmp (key r) least ≢ Less → IsFrom r
  not_below r apart low = apart (ap (λ o. ordering_then o (ordering_then (text_cmp (name r) []) Equal)) low)

  above : (rows : List R) → AllAbove key least rows → AllByRecursion IsFrom rows
  above rows all = all-weaker (λ r. key_cmp (key r) least ≡ Greater) IsFrom (λ r e. not_below r (λ low. (let clash : Less ≡ Greater = sym low ∙ e in absurd (cc)))) rows all

  pub from-found : (rows : List R) (i : ℕ) → IsFoundAt key least rows i → AllByRecursion IsFrom (drop i rows)
  from-found rows i at =
      let here : IsFrom at.row = not_below at.row (λ low. (let clash : Less ≡ Equal = sym low ∙ ap (λ k. key_cmp k least) at.has_key ∙ tied_itself keys_total least in absurd (cc))) in
      subst (AllByRecursion IsFrom) (sym (drop_here rows i at.row at.in_range (sym (at.here at.row)))) (here, above (drop (i + 1) rows) at.after)

  pub from-gap : (rows : List R) (i : ℕ) → IsGapAt key least rows i → AllByRecursion IsFrom (drop i rows)
  from-gap rows i gap = above (drop i rows) gap.after

  -- a row before one of operator b is of b, or of an operator before b
  also_own : (x y : R) → by_key key x y ≡ Less → IsFrom x → is_own y ≡ true → is_own x ≡ true
  also_own x y below from mine =
      let same : op y ≡ b = same_text (op y) b mine in
      elim (text_cmp (op x) b) as (λ o. text_cmp (op x) b ≡ o → is_own x ≡ true) [
        | Less ↦ λ e. absurd (from e)
        | Equal ↦ λ e. sym (is_eq-slice_cmp (op x) b) ∙ ap is_eq e
        | Greater ↦ λ e. (let clash : Greater ≡ Less = sym (ap (λ o. ordering_then o (ordering_then (text_cmp (name x) (name y)) Equal)) (ap (text_cmp (op x)) same ∙ e)) ∙ below in absurd (cc))
      ] refl

  parted : (rows : List R) → IsStrictlySortedBy (by_key key) rows → AllByRecursion IsFrom rows → IsPartitionedBy is_own rows
  unfolding IsStrictlySortedBy
  parted [] sorted from i j d le within mine = absurd (omega arith)
  parted (x ∷ rows) sorted from zero zero d le within mine = mine
  parted (x ∷ rows) sorted from zero (suc j) d le within mine = also_own x (get_or rows j d) (all-at (λ y. by_key key x y ≡ Less) rows j d sorted.0 (omega arith)) from.0 mine
  parted (x ∷ rows) sorted from (suc i) zero d le within mine = absurd (omega arith)
  parted (x ∷ rows) sorted from (suc i) (suc j) d le within mine = parted rows sorted.1 from.1 i j d (omega arith) (omega arith) mine

  pub parted-from : (rows : List R) (i : ℕ) → IsStrictlySortedBy (by_key key) rows → AllByRecursion IsFrom (drop i rows) → IsPartitionedBy is_own (drop i rows)
  parted-from rows i sorted from = parted (drop i rows) (sorted-drop (by_key key) rows i sorted) from

  -- the rows of b are those from the first place on, up to where the test no longer passes
  pub range : (rows : List R) (i k : ℕ) → AllByRecursion (λ r. is_own r ≡ false) (take i rows) → IsPartitionPoint (λ r. is_own r ≡ true) (λ r. is_own r ≡ false) (drop i rows) k → take k (drop i rows) ≡ own op b rows
  range rows i k before point =
      sym (first-pass is_own (drop i rows) k point.0 point.1)
      ∙ sym (passed is_own (take i rows) (drop i rows) before)
      ∙ ap (filter is_own) (take-append-drop i rows)
