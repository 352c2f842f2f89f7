-- A row that is there and is changed is put in its own place.
use Rattle.std.proofs.Common.{◌≡◌, ◌&&◌, ℕ, Some, find, subst₂, List, [], ◌∷◌, Bool, true, false, cond, map, Equal, sym, ap, ◌∙◌, subst, inl, inr, true≢false}
use Rattle.std.specs.Str.{bytes_eq}
use Rattle.std.specs.List.Sorted.{IsStrictlySortedBy}
use Rattle.std.proofs.lemmas.Bool.{cases_Bool}
use Rattle.std.proofs.lemmas.Cmp.{tied_itself}
use Rattle.sqlite_rules.specs.Lists.{Has}
use Rattle.sqlite_rules.proofs.ProbeLemmas.{has_mapped, mapped_has}
use Rattle.hub_rows.specs.Keyed.{by_key, key_cmp, changed, put}
use Rattle.hub_rows.proofs.ListLaws.{by_key_total, sorted-changed, sorted-put, keys_total}
use Rattle.sql_rows.proofs.MemberLaws.{sorted_single, same_elements, has_new, put_from, put_spares}

module _ {R : Type 0} (key : R → List (List ℕ)) (op : R → List ℕ) (b : List ℕ) (test : R → Bool) (f : R → R) (stays : (r : R) → key (f r) ≡ key r) (rows : List R) (sorted : IsStrictlySortedBy (by_key key) rows)
    (r : R) (there : Has rows r) (passes : bytes_eq (op r) b && test r ≡ true) (one : (x : R) → Has rows x → bytes_eq (op x) b && test x ≡ true → x ≡ r) (tied : (x : R) → Has rows x → by_key key x r ≡ Equal → x ≡ r) where
  abbrev step : R → R
  step x = cond (bytes_eq (op x) b && test x) (f x) x

  step_here : step r ≡ f r
  step_here = ap (λ t. cond t (f r) r) passes

  step_other : (x : R) → bytes_eq (op x) b && test x ≡ false → step x ≡ x
  step_other x fails = ap (λ t. cond t (f x) x) fails

  moved : (x : R) → by_key key x (f r) ≡ by_key key x r
  moved x = ap (λ k. key_cmp (key x) k) (stays r)

  pub changed_is_put : changed op b test f rows ≡ put (by_key key) (f r) rows
  changed_is_put = same_elements (by_key key) (by_key_total key) _ _ (sorted-changed key op b test f stays rows sorted) (sorted-put (by_key key) (by_key_total key) (f r) rows sorted)
      (λ y h.
      let x = has_mapped step rows y h in
      elim (cases_Bool (bytes_eq (op x.0) b && test x.0)) [
        | inl e ↦ subst (Has (put (by_key key) (f r) rows)) (sym (x.2 ∙ ap step (one x.0 x.1 e) ∙ step_here)) (has_new (by_key key) (by_key_total key) (f r) rows)
        | inr e ↦ subst (Has (put (by_key key) (f r) rows)) (sym (x.2 ∙ step_other x.0 e)) (put_spares (by_key key) (by_key_total key) (f r) rows x.0 x.1
            (λ tie. true≢false (sym passes ∙ ap (λ z. bytes_eq (op z) b && test z) (sym (tied x.0 x.1 (sym (moved x.0) ∙ tie))) ∙ e)))
      ])
      (λ y h. elim (put_from (by_key key) (by_key_total key) (f r) rows y sorted h) [
        | inl same ↦ subst (Has (map step rows)) (step_here ∙ sym same) (mapped_has step rows r there)
        | inr old ↦ elim (cases_Bool (bytes_eq (op y) b && test y)) [
          | inl e ↦ absurd (old.1 (moved y ∙ ap (λ z. by_key key z r) (one y old.0 e) ∙ tied_itself keys_total (key r)))
          | inr e ↦ subst (Has (map step rows)) (step_other y e) (mapped_has step rows y old.0)
        ]
      ])

pub find_has : {R : Type 0} (p : R → Bool) (xs : List R) (r : R) → find p xs ≡ Some r → Has xs r × (p r ≡ true)
find_has p [] r e = absurd cc
find_has p (x ∷ xs) r e = elim (cases_Bool (p x)) [
  | inl t ↦ let first = rw t at e in let same : x ≡ r = cc in (inl (sym same), ap p (sym same) ∙ t)
  | inr n ↦ let rest = find_has p xs r (rw n at e) in (inr rest.0, rest.1)
]

-- the row of a key that is found and changed is put
pub found_changed : {R : Type 0} (key : R → List (List ℕ)) (op : R → List ℕ) (b : List ℕ) (test : R → Bool) (f : R → R) → ((r : R) → key (f r) ≡ key r) → (rows : List R) → IsStrictlySortedBy (by_key key) rows
    → (k : List (List ℕ)) → ((x : R) → bytes_eq (op x) b && test x ≡ true → key x ≡ k) → (r : R) → find (λ x. bytes_eq (op x) b && test x) rows ≡ Some r → changed op b test f rows ≡ put (by_key key) (f r) rows
found_changed key op b test f stays rows sorted k keyed r found =
    let h = find_has (λ x. bytes_eq (op x) b && test x) rows r found in
    changed_is_put key op b test f stays rows sorted r h.0 h.1
    (λ x l passes. sorted_single (by_key key) (by_key_total key) rows sorted x r l h.0 (subst₂ (λ a c. key_cmp a c ≡ Equal) (sym (keyed x passes)) (sym (keyed r h.1)) (tied_itself keys_total k)))
    (λ x l tie. sorted_single (by_key key) (by_key_total key) rows sorted x r l h.0 tie)
