-- The rows of a station from a number on.
use Rattle.std.specs.Prelude.{◌≡◌, ℕ, nat_le, ◌+◌, ◌<◌, ◌≤◌, List, [], ◌∷◌, ◌++◌, take, drop, Bool, true, false, filter}
use Rattle.std.specs.List.{AllByRecursion}
use Rattle.std.specs.Ordering.{nat_cmp, MatchOrdering}
use Rattle.std.specs.Cmp.{ranked}
use Rattle.std.specs.declared.cmp.Ordering.TheVariants.{Less, Greater}
use Rattle.std.proofs.Common.{refl, sym, ◌∙◌, ap, subst, arith}
use Rattle.std.proofs.lemmas.Bool.{le-leb, lt-leb}
use Rattle.std.proofs.lemmas.List.{take-append-drop}
use Rattle.std.proofs.lemmas.List.Elements.{filter-append}
use Rattle.hub_rows.specs.Keyed.{key_cmp, number_key}
use Rattle.hub_rows.specs.Places.{AllAbove, IsFoundAt, IsGapAt}
use Rattle.hub_rows.proofs.ListLaws.{all-weaker}
use Rattle.hub_rows.proofs.Steps.{drop_here}
use Rattle.hub_rows.proofs.FilterLaws.{filter-all, filter-no}
use Rattle.hub_rows.proofs.NumberLaws.{less-number, number_order}

greater-number : (m n : ℕ) → key_cmp ((m ∷ []) ∷ []) ((n ∷ []) ∷ []) ≡ Greater → n < m
greater-number m n e = subst (λ o. MatchOrdering o (m < n) (m ≡ n) (n < m)) (sym (number_order m n) ∙ e) (ranked m n (nat_cmp m n) refl)

one_number : (m n : ℕ) → (m ∷ []) ∷ [] ≡ (n ∷ []) ∷ [] → m ≡ n
one_number m n e = cc

module _ {R : Type 0} (number : R → ℕ) (n : ℕ) where
  abbrev is_from : R → Bool
  is_from r = nat_le n (number r)

  abbrev IsFrom : R → Type 0
  IsFrom r = n ≤ number r

  -- where the rows before an index are below the number and those from it on are not
  parted : (rows : List R) (i : ℕ) → AllByRecursion (λ r. number r < n) (take i rows) → AllByRecursion IsFrom (drop i rows) → filter is_from rows ≡ drop i rows
  parted rows i below from =
      ap (filter is_from) (sym (take-append-drop i rows)) ∙ filter-append is_from (take i rows) (drop i rows)
      ∙ (λ j. filter-no is_from (take i rows) (all-weaker (λ r. number r < n) (λ r. is_from r ≡ false) (λ r low. lt-leb n (number r) low) (take i rows) below) j
      ++ filter-all is_from (drop i rows) (all-weaker IsFrom (λ r. is_from r ≡ true) (λ r at. le-leb n (number r) at) (drop i rows) from) j)

  below : (rows : List R) → AllByRecursion (λ r. key_cmp (number_key number r) ((n ∷ []) ∷ []) ≡ Less) rows → AllByRecursion (λ r. number r < n) rows
  below rows all = all-weaker (λ r. key_cmp (number_key number r) ((n ∷ []) ∷ []) ≡ Less) (λ r. number r < n) (λ r e. less-number (number r) n e) rows all

  above : (rows : List R) → AllAbove (number_key number) ((n ∷ []) ∷ []) rows → AllByRecursion IsFrom rows
  above rows all = all-weaker (λ r. key_cmp (number_key number r) ((n ∷ []) ∷ []) ≡ Greater) IsFrom (λ r e. let high = greater-number (number r) n e in omega (arith, high)) rows all

  pub from-found : (rows : List R) (i : ℕ) → IsFoundAt (number_key number) ((n ∷ []) ∷ []) rows i → filter is_from rows ≡ drop i rows
  from-found rows i at =
      let same : number at.row ≡ n = one_number (number at.row) n at.has_key in
      let here : IsFrom at.row = omega (arith, same) in
      parted rows i (below (take i rows) at.before) (subst (AllByRecursion IsFrom) (sym (drop_here rows i at.row at.in_range (sym (at.here at.row)))) (here, above (drop (i + 1) rows) at.after))

  pub from-gap : (rows : List R) (i : ℕ) → IsGapAt (number_key number) ((n ∷ []) ∷ []) rows i → filter is_from rows ≡ drop i rows
  from-gap rows i gap = parted rows i (below (take i rows) gap.before) (above (drop i rows) gap.after)
