-- What a list in order has, and that its rows determine it.
use Rattle.std.proofs.Common.{◌≡◌, ◌⊎◌, List, [], ◌∷◌, ◌++◌, map, Bool, filter, Ordering, Less, Equal, Greater, refl, sym, ap, ap₂, ◌∙◌, subst, inl, inr}
use Rattle.std.proofs.lemmas.List.{map-append}
use Rattle.std.specs.Cmp.{IsTotalOrder}
use Rattle.std.specs.Ordering.{match_ordering, ordering_reverse}
use Rattle.std.specs.List.{AllByRecursion}
use Rattle.std.specs.List.Sorted.{IsStrictlySortedBy}
use Rattle.std.proofs.lemmas.Bool.{cases_Bool}
use Rattle.std.proofs.lemmas.Cmp.{tied_back}
use Rattle.sqlite_rules.specs.Lists.{Has}
use Rattle.sqlite_rules.proofs.ListLemmas.{all_has, all_from, has_filtered}
use Rattle.hub_rows.specs.Keyed.{put, put_all}
use Rattle.hub_rows.proofs.ListLaws.{sorted-put, sorted-put_all}

module _ {R : Type 0} (cmp : R → R → Ordering) (o : IsTotalOrder cmp) where
  -- rows with one key are one
  abbrev pub IsSingle : List R → Type 0
  IsSingle xs = (a b : R) → Has xs a → Has xs b → cmp a b ≡ Equal → a ≡ b

  clash : (a b : Ordering) → a ≡ Less → a ≡ Equal → ⊥
  clash a b p q = let e = sym p ∙ q in cc

  pub has_new : (x : R) (ys : List R) → Has (put cmp x ys) x
  has_new x [] = inl refl
  has_new x (y ∷ ys) = elim (cmp x y) as (λ c. Has (match_ordering c (x ∷ y ∷ ys) (x ∷ ys) (y ∷ put cmp x ys)) x) [ Less ↦ inl refl | Equal ↦ inl refl | Greater ↦ inr (has_new x ys) ]

  never_both : (a b : R) → cmp a b ≡ Less → cmp b a ≡ Less → ⊥
  never_both a b p q = let e = o.antisymm a b ∙ ap ordering_reverse q in cc

  never_tied : (a b : R) → cmp a b ≡ Less → cmp b a ≡ Equal → ⊥
  never_tied a b p q = let e = tied_back o b a q in cc

  -- two lists in order with the same rows are one
  pub same_elements : (xs ys : List R) → IsStrictlySortedBy cmp xs → IsStrictlySortedBy cmp ys → ((x : R) → Has xs x → Has ys x) → ((x : R) → Has ys x → Has xs x) → xs ≡ ys
  unfolding IsStrictlySortedBy
  same_elements [] [] p q a b = refl
  same_elements [] (y ∷ ys) p q a b = absurd (b y (inl refl))
  same_elements (x ∷ xs) [] p q a b = absurd (a x (inl refl))
  same_elements (x ∷ xs) (y ∷ ys) p q a b =
      let first : x ≡ y = elim (a x (inl refl)) [
        | inl e ↦ e
        | inr later ↦ elim (b y (inl refl)) [ inl e ↦ sym e | inr also ↦ absurd (never_both x y (all_has _ xs y p.0 also) (all_has _ ys x q.0 later)) ]
      ] in
      let past = λ (z : R) (zs : List R) (up : AllByRecursion (λ r. cmp z r ≡ Less) zs) (r : R) (h : Has zs r) (e : r ≡ z).
      let lower = rw e at (all_has _ zs r up h) in never_both z z lower lower in
      ap₂ ◌∷◌ first (same_elements xs ys p.1 q.1
      (λ r h. elim (a r (inr h)) [ inl e ↦ absurd (past x xs p.0 r h (e ∙ sym first)) | inr k ↦ k ])
      (λ r h. elim (b r (inr h)) [ inl e ↦ absurd (past y ys q.0 r h (e ∙ first)) | inr k ↦ k ]))

  -- rows of a list in order that compare alike are one
  pub sorted_single : (xs : List R) → IsStrictlySortedBy cmp xs → IsSingle xs
  unfolding IsStrictlySortedBy
  sorted_single [] up x y h l tie = absurd h
  sorted_single (z ∷ xs) up x y (inl a) (inl b) tie = a ∙ sym b
  sorted_single (z ∷ xs) up x y (inl a) (inr l) tie = absurd (clash (cmp z y) (cmp z y) (all_has _ xs y up.0 l) (subst (λ w. cmp w y ≡ Equal) a tie))
  sorted_single (z ∷ xs) up x y (inr h) (inl b) tie = absurd (never_tied z x (all_has _ xs x up.0 h) (subst (λ w. cmp x w ≡ Equal) b tie))
  sorted_single (z ∷ xs) up x y (inr h) (inr l) tie = sorted_single xs up.1 x y h l tie

  -- what is in a list after a put
  pub put_from : (x : R) (ys : List R) (y : R) → IsStrictlySortedBy cmp ys → Has (put cmp x ys) y → (y ≡ x) ⊎ (Has ys y × (cmp y x ≡ Equal → ⊥))
  unfolding IsStrictlySortedBy
  put_from x [] y up h = elim h [ inl same ↦ inl same | inr none ↦ absurd none ]
  put_from x (z ∷ ys) y up h = go (cmp x z) refl h (put_from x ys y up.1)
    where
      go : (c : Ordering) → cmp x z ≡ c → Has (match_ordering c (x ∷ z ∷ ys) (x ∷ ys) (z ∷ put cmp x ys)) y → (Has (put cmp x ys) y → (y ≡ x) ⊎ (Has ys y × (cmp y x ≡ Equal → ⊥)))
          → (y ≡ x) ⊎ (Has (z ∷ ys) y × (cmp y x ≡ Equal → ⊥))
      go Less e (inl new) later = inl new
      go Less e (inr (inl same)) later = inr (inl same, λ tie. never_tied x z e (rw same at tie))
      go Less e (inr (inr there)) later = inr (inr there, λ tie. never_tied x y (o.trans x z y e (all_has _ ys y up.0 there)) tie)
      go Equal e (inl same) later = inl same
      go Equal e (inr there) later = inr (inr there, λ tie. never_tied x y (o.congr x z y e ∙ all_has _ ys y up.0 there) tie)
      go Greater e (inl same) later = inr (inl same, λ tie. let t = tied_back o z x (rw same at tie) in cc)
      go Greater e (inr there) later = elim (later there) [ inl new ↦ inl new | inr old ↦ inr (inr old.0, old.1) ]

  pub put_spares : (x : R) (ys : List R) (y : R) → Has ys y → (cmp y x ≡ Equal → ⊥) → Has (put cmp x ys) y
  put_spares x [] y h other = absurd h
  put_spares x (z ∷ ys) y h other = go (cmp x z) refl (put_spares x ys y)
    where
      go : (c : Ordering) → cmp x z ≡ c → (Has ys y → (cmp y x ≡ Equal → ⊥) → Has (put cmp x ys) y) → Has (match_ordering c (x ∷ z ∷ ys) (x ∷ ys) (z ∷ put cmp x ys)) y
      go Less e later = inr h
      go Equal e later = elim h [ inl same ↦ absurd (other (tied_back o x y (ap (cmp x) same ∙ e))) | inr more ↦ inr more ]
      go Greater e later = elim h [ inl same ↦ inl same | inr more ↦ inr (later more other) ]

  -- what is in a list after puts
  pub put_all_from : (xs ys : List R) (y : R) → IsStrictlySortedBy cmp ys → Has (put_all cmp xs ys) y → Has xs y ⊎ Has ys y
  put_all_from [] ys y up h = inr h
  put_all_from (x ∷ xs) ys y up h = elim (put_all_from xs (put cmp x ys) y (sorted-put cmp o x ys up) h) [
    | inl later ↦ inl (inr later)
    | inr was ↦ elim (put_from x ys y up was) [ inl same ↦ inl (inl same) | inr old ↦ inr old.0 ]
  ]

  is_tied : (c : Ordering) → (c ≡ Equal) ⊎ (c ≡ Equal → ⊥)
  is_tied Less = inr (λ e. cc)
  is_tied Equal = inl refl
  is_tied Greater = inr (λ e. cc)

  any_same : (xs : List R) (y : R) → ((x : R) × Has xs x × (cmp y x ≡ Equal)) ⊎ ((x : R) → Has xs x → cmp y x ≡ Equal → ⊥)
  any_same [] y = inr (λ x none. absurd none)
  any_same (x ∷ xs) y = elim (is_tied (cmp y x)) [
    | inl tie ↦ inl (x, inl refl, tie)
    | inr other ↦ elim (any_same xs y) [
      | inl m ↦ inl (m.0, inr m.1, m.2)
      | inr apart ↦ inr (λ m k tie. elim k [ inl e ↦ other (ap (cmp y) (sym e) ∙ tie) | inr more ↦ apart m more tie ])
    ]
  ]

  pub spares_each : (xs ys : List R) (y : R) → Has ys y → ((x : R) → Has xs x → cmp y x ≡ Equal → ⊥) → Has (put_all cmp xs ys) y
  spares_each [] ys y h apart = h
  spares_each (x ∷ xs) ys y h apart = spares_each xs (put cmp x ys) y (put_spares x ys y h (apart x (inl refl))) (λ m k. apart m (inr k))

  pub put_all_adds : (xs ys : List R) (y : R) → IsSingle xs → Has xs y → Has (put_all cmp xs ys) y
  put_all_adds [] ys y once h = absurd h
  put_all_adds (x ∷ xs) ys y once h =
      let later = put_all_adds xs (put cmp x ys) y (λ a b p q. once a b (inr p) (inr q)) in
      elim h [
        | inr more ↦ later more
        | inl e ↦ elim (any_same xs y) [
          | inl m ↦ later (subst (Has xs) (sym (once y m.0 (inl e) (inr m.1) m.2)) m.1)
          | inr apart ↦ spares_each xs (put cmp x ys) y (subst (Has (put cmp x ys)) (sym e) (has_new x ys)) apart
        ]
      ]

  pub is_arranged : (xs : List R) → IsStrictlySortedBy cmp (put_all cmp xs [])
  unfolding IsStrictlySortedBy
  is_arranged xs = sorted-put_all cmp o xs [] tt

  pub arranged_from : (xs : List R) (y : R) → Has (put_all cmp xs []) y → Has xs y
  unfolding IsStrictlySortedBy
  arranged_from xs y h = elim (put_all_from xs [] y tt h) [ inl in_it ↦ in_it | inr none ↦ absurd none ]

  pub arranged_has : (xs : List R) (y : R) → IsSingle xs → Has xs y → Has (put_all cmp xs []) y
  arranged_has xs y once h = put_all_adds xs [] y once h

  pub sorted_filter : (p : R → Bool) (ys : List R) → IsStrictlySortedBy cmp ys → IsStrictlySortedBy cmp (filter p ys)
  unfolding IsStrictlySortedBy
  sorted_filter p [] up = tt
  sorted_filter p (y ∷ ys) up = elim (cases_Bool (p y)) [
    | inl e ↦ rw e (all_from _ (filter p ys) (λ z h. all_has _ ys z up.0 (has_filtered p ys z h).0), sorted_filter p ys up.1)
    | inr e ↦ rw e (sorted_filter p ys up.1)
  ]

-- rows put one after the other, as a loop puts them
pub put_all-last : {R : Type 0} (cmp : R → R → Ordering) (xs : List R) (x : R) (ys : List R) → put_all cmp (xs ++ x ∷ []) ys ≡ put cmp x (put_all cmp xs ys)
put_all-last cmp [] x ys = refl
put_all-last cmp (z ∷ xs) x ys = put_all-last cmp xs x (put cmp z ys)

pub mapped-last : {X R : Type 0} (cmp : R → R → Ordering) (f : X → R) (xs : List X) (x : X) → put_all cmp (map f (xs ++ x ∷ [])) [] ≡ put cmp (f x) (put_all cmp (map f xs) [])
mapped-last cmp f xs x = ap (λ l. put_all cmp l []) (map-append f xs (x ∷ [])) ∙ put_all-last cmp (map f xs) (f x) []
