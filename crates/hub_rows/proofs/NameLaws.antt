-- Rows whose key is their operator and one name.
use Rattle.std.specs.Prelude.{◌≡◌, ℕ, ◌+◌, List, [], ◌∷◌, ◌++◌, take, drop, Bool, true, false, cond, ◌&&◌, not, filter}
use Rattle.std.proofs.Common.{refl, sym, ◌∙◌, ap, add-one}
use Rattle.std.proofs.lemmas.List.{take-append-drop}
use Rattle.std.proofs.lemmas.List.Elements.{filter-append}
use Rattle.std.specs.List.{AllByRecursion, remove}
use Rattle.std.specs.Ordering.{is_eq}
use Rattle.std.specs.Str.{bytes_eq}
use Rattle.std.specs.declared.cmp.Ordering.TheVariants.{Less, Greater}
use Rattle.std.proofs.lemmas.Cmp.{tied_itself}
use Rattle.hub_rows.specs.Keyed.{key_cmp, pair_key}
use Rattle.hub_rows.specs.Places.{AllBelow, AllAbove, IsFoundAt, IsGapAt}
use Rattle.hub_rows.proofs.ListLaws.{keys_total, all-weaker, two_parts}

-- the test of an operator and a name is the comparison of the key
abbrev pub is_of : {R : Type 0} → (R → List ℕ) → (R → List ℕ) → List ℕ → List ℕ → R → Bool
is_of op name o n r = bytes_eq (op r) o && bytes_eq (name r) n

pub pair_agrees : {R : Type 0} (op name : R → List ℕ) (o n : List ℕ) (r : R) → is_of op name o n r ≡ is_eq (key_cmp (pair_key op name r) (o ∷ n ∷ []))
pair_agrees op name o n r = two_parts (op r) (name r) o n

filter-none : {R : Type 0} (t : R → Bool) (xs : List R) → AllByRecursion (λ r. t r ≡ false) xs → filter (λ r. not (t r)) xs ≡ xs
filter-none t [] none = refl
filter-none t (y ∷ xs) none = λ i. cond (not (none.0 i)) (y ∷ filter-none t xs none.1 i) (filter-none t xs none.1 i)

module _ {R : Type 0} (key : R → List (List ℕ)) (k : List (List ℕ)) (t : R → Bool) (agrees : (r : R) → t r ≡ is_eq (key_cmp (key r) k)) where
  below : (xs : List R) → AllBelow key k xs → filter (λ r. not (t r)) xs ≡ xs
  below xs all = filter-none t xs (all-weaker (λ r. key_cmp (key r) k ≡ Less) (λ r. t r ≡ false) (λ r e. agrees r ∙ ap is_eq e) xs all)

  above : (xs : List R) → AllAbove key k xs → filter (λ r. not (t r)) xs ≡ xs
  above xs all = filter-none t xs (all-weaker (λ r. key_cmp (key r) k ≡ Greater) (λ r. t r ≡ false) (λ r e. agrees r ∙ ap is_eq e) xs all)

  -- the row of a key is taken out
  pub filter-found : (rows : List R) (i : ℕ) → (at : IsFoundAt key k rows i) → filter (λ r. not (t r)) rows ≡ remove rows i
  filter-found rows i at =
      let passes : t at.row ≡ true = agrees at.row ∙ ap is_eq (ap (λ l. key_cmp l k) at.has_key ∙ tied_itself keys_total k) in
      ap (filter (λ r. not (t r))) at.split ∙ filter-append (λ r. not (t r)) (take i rows) (at.row ∷ drop (i + 1) rows)
      ∙ (λ j. below (take i rows) at.before j ++ cond (not (passes j)) (at.row ∷ above (drop (i + 1) rows) at.after j) (above (drop (i + 1) rows) at.after j))
      ∙ ap (λ n. take i rows ++ drop n rows) (add-one i)

  pub filter-gap : (rows : List R) (i : ℕ) → IsGapAt key k rows i → filter (λ r. not (t r)) rows ≡ rows
  filter-gap rows i gap =
      ap (filter (λ r. not (t r))) (sym (take-append-drop i rows)) ∙ filter-append (λ r. not (t r)) (take i rows) (drop i rows)
      ∙ (λ j. below (take i rows) gap.before j ++ above (drop i rows) gap.after j) ∙ take-append-drop i rows
