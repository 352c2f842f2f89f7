-- Rows whose keys are three texts.
use Rattle.std.specs.Prelude.{◌≡◌, ℕ, List, [], ◌∷◌, Bool, true, false, cond, ◌&&◌, ◌||◌, find, Some, is_some, Result, Ok, Err, is_ok}
use Rattle.std.specs.List.{list_any}
use Rattle.std.specs.Ordering.{ordering_then, is_eq}
use Rattle.std.specs.Str.{bytes_eq}
use Rattle.std.specs.declared.cmp.Ordering.{Ordering}
use Rattle.std.specs.declared.cmp.Ordering.TheVariants.{Less, Equal, Greater}
use Rattle.std.proofs.Common.{refl, sym, ◌∙◌, ap}
use Rattle.std.proofs.lemmas.Map.Text.{is_eq-slice_cmp}
use Rattle.hub_rows.specs.Keyed.{text_cmp, key_cmp}
use Rattle.hub_rows.specs.Places.{IsPlace}
use Rattle.hub_rows.proofs.PlaceLaws.{find-found, find-gap}
use Rattle.store_mem.specs.Groups.{is_row}

both-equal : (o p : Ordering) → is_eq (ordering_then o p) ≡ is_eq o && is_eq p
both-equal Less p = refl
both-equal Equal p = refl
both-equal Greater p = refl

-- one is there if one is found
pub any-found : {R : Type 0} (t : R → Bool) (xs : List R) → list_any t xs ≡ is_some (find t xs)
any-found t [] = refl
any-found t (x ∷ xs) = elim (t x) as (λ b. b || list_any t xs ≡ is_some (cond b (Some x) (find t xs))) [ true ↦ refl | false ↦ any-found t xs ]

module _ {R : Type 0} (key : R → List (List ℕ)) (group : R → List ℕ) (rest : R → List (List ℕ)) (splits : (r : R) → key r ≡ group r ∷ rest r) (b s t : List ℕ) where
  abbrev pub is_its_row : R → Bool
  is_its_row r = bytes_eq (group r) b && is_row rest s t r

  pub agrees : (r : R) → is_its_row r ≡ is_eq (key_cmp (key r) (b ∷ s ∷ t ∷ []))
  agrees r =
      (λ i. sym (is_eq-slice_cmp (group r) b) i && is_row rest s t r) ∙ sym (both-equal (text_cmp (group r) b) (key_cmp (rest r) (s ∷ t ∷ [])))
      ∙ ap (λ k. is_eq (key_cmp k (b ∷ s ∷ t ∷ []))) (sym (splits r))

  -- a search for it succeeds if it is there
  pub found-place : (rows : List R) (p : Result ℕ ℕ) → IsPlace key (b ∷ s ∷ t ∷ []) rows p → is_ok p ≡ is_some (find is_its_row rows)
  found-place rows (Ok i) at = sym (ap is_some (find-found key (b ∷ s ∷ t ∷ []) is_its_row agrees rows i at))
  found-place rows (Err i) gap = sym (ap is_some (find-gap key (b ∷ s ∷ t ∷ []) is_its_row agrees rows i gap))
