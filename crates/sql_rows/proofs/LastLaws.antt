-- What ORDER BY .. DESC LIMIT 1 shows: the greatest number of the rows that pass.
use Rattle.std.proofs.Common.{◌≡◌, ◌⊎◌, ℕ, suc, ◌+◌, ◌≤◌, pos, List, [], ◌∷◌, map, take, Bool, true, false, refl, sym, ap, ◌∙◌, subst, inl, inr, arith, slice_index_or}
use Rattle.std.specs.List.Sorted.{IsSortedBy}
use Rattle.std.specs.List.{list_all}
use Rattle.std.specs.Cmp.{IsTotalOrder}
use Rattle.std.specs.Ordering.{is_lt, ordering_then}
use Rattle.std.proofs.Common.{Ordering, Less, Equal, Greater}
use Rattle.std.proofs.lemmas.Cmp.{tied_itself}
use Rattle.sqlite_value.specs.declared.value.Value.TheVariants.{Int}
use Rattle.sqlite_value.specs.declared.keys.Collation.TheVariants.{Binary}
use Rattle.sqlite_value.specs.declared.keys.Key as sort
use Rattle.sqlite_value.specs.Order.{Row, column, value_cmp}
use Rattle.sqlite_value.proofs.OrderLemmas.{value_cmp_total}
use Rattle.sqlite_trees.specs.Tree.{Trees}
use Rattle.sqlite_trees.proofs.TreeLemmas.{above}
use Rattle.sqlite_sql.specs.Term.{Term, col, lit, holds, eval_all}
use Rattle.sqlite_sql.specs.Query.{IsAnswer, Output, output, output_cmp}
use Rattle.sql_tables.specs.Forms.{last_query}
use Rattle.sql_rows.proofs.QueryLemmas.{ordered_from, ordered_has}
use Rattle.hub_rows.specs.Keyed.{greatest}
use Rattle.sqlite_rules.specs.Lists.{Has}

-- no number is above the greatest, and it is not above a number that none of them is above
greatest_above : (ns : List ℕ) (m : ℕ) → Has ns m → m ≤ greatest ns
greatest_above [] m none = absurd none
greatest_above (l ∷ ns) m (inl same) = omega (arith, same)
greatest_above (l ∷ ns) m (inr later) = let rest = greatest_above ns m later in omega (arith, rest)

greatest_below : (ns : List ℕ) (n : ℕ) → ((m : ℕ) → Has ns m → m ≤ n) → greatest ns ≤ n
greatest_below [] n each = omega arith
greatest_below (m ∷ ns) n each = let here = each m (inl refl) in let rest = greatest_below ns n (λ l there. each l (inr there)) in omega (arith, here, rest)

-- a number that is among them, and that none is above, is the greatest
pub greatest_is : (ns : List ℕ) (n : ℕ) → Has ns n → ((m : ℕ) → Has ns m → m ≤ n) → greatest ns ≡ n
greatest_is ns n h all = let low = greatest_below ns n all in let high = greatest_above ns n h in omega (arith, low, high)

-- the first of a list in order is below no other
module _ {X : Type 0} (lt : X → X → Bool) (still : (a b c : X) → lt b a ≡ false → lt c b ≡ false → lt c a ≡ false) where
  pub rest_sorted : (x : X) (xs : List X) → IsSortedBy lt (x ∷ xs) → IsSortedBy lt xs
  rest_sorted x xs h = λ k d low high.
      let next : suc k + 1 ≡ suc (k + 1) = omega arith in
      subst (λ n. lt (slice_index_or (x ∷ xs) n d) (slice_index_or xs k d) ≡ false) next (h (suc k) d (omega arith) (omega (arith, high)))

  pub first_most : (xs : List X) (x : X) → IsSortedBy lt (x ∷ xs) → (y : X) → Has xs y → lt y x ≡ false
  first_most [] x h y none = absurd none
  first_most (z ∷ xs) x h y (inl same) = subst (λ w. lt w x ≡ false) (sym same) (h 0 x (omega arith) (omega arith))
  first_most (z ∷ xs) x h y (inr later) = still x z y (h 0 x (omega arith) (omega arith)) (first_most xs z (rest_sorted x (z ∷ xs) h) y later)

-- ---- an order that is turned round

pub not_less : (o : Ordering) → is_lt (ordering_then o Equal) ≡ false → o ≡ Less → ⊥
not_less Less h e = absurd cc
not_less Equal h e = cc
not_less Greater h e = cc

pub less_not : (o : Ordering) → (o ≡ Less → ⊥) → is_lt (ordering_then o Equal) ≡ false
less_not Less h = absurd (h refl)
less_not Equal h = refl
less_not Greater h = refl

-- not below is carried on
pub on_and_on : {K : Type 0} (R : K → K → Ordering) (o : IsTotalOrder R) (a b c : K) → (R a b ≡ Less → ⊥) → (R b c ≡ Less → ⊥) → R a c ≡ Less → ⊥
on_and_on R o a b c p q low = go (R a b) refl
  where
    go : (x : Ordering) → R a b ≡ x → ⊥
    go Less e = p e
    go Equal e = q (sym (o.congr a b c e) ∙ low)
    go Greater e = q (o.trans b a c (above o a b e) low)

abbrev down_by : ℕ → List (Term × sort.Key)
down_by at = (col 1 at, record { collation = Binary; descending = true }) ∷ []

module _ (tree : ℕ) (wanted project : List Term) (at : ℕ) (db : Trees) (params : Row) (rows : List Row) (answer : IsAnswer (last_query tree wanted project at) db params rows) where
  abbrev passes : Row → Type 0
  passes r = list_all (holds (params ∷ r ∷ [])) wanted ≡ true

  -- no row passes, or the one that is shown passes and is below no other that does
  abbrev pub IsLast : Type 0
  IsLast = ((rows ≡ []) × ((r : Row) → Has (db tree) r → passes r → ⊥))
      ⊎ ((r : Row) × Has (db tree) r × passes r × (rows ≡ eval_all project (params ∷ r ∷ []) ∷ []) × ((u : Row) → Has (db tree) u → passes u → value_cmp (column r at) (column u at) ≡ Less → ⊥))

  abbrev out_of : Row → Output
  out_of r = output (last_query tree wanted project at) (params ∷ r ∷ [])

  there_is : (r : Row) → Has (db tree) r → passes r → Has answer.ordered (out_of r)
  there_is = ordered_has wanted project (down_by at) (lit (Int (pos 1))) db tree params rows answer

  comes_from : (o : Output) → Has answer.ordered o → (r : Row) × Has (db tree) r × passes r × (o ≡ out_of r)
  comes_from = ordered_from wanted project (down_by at) (lit (Int (pos 1))) db tree params rows answer

  abbrev lt : Output → Output → Bool
  lt x y = is_lt (output_cmp (last_query tree wanted project at) x y)

  still : (a b c : Output) → lt b a ≡ false → lt c b ≡ false → lt c a ≡ false
  still a b c p q =
      less_not (value_cmp (column a.0 0) (column c.0 0)) (on_and_on value_cmp value_cmp_total (column a.0 0) (column b.0 0) (column c.0 0) (not_less (value_cmp (column a.0 0) (column b.0 0)) p) (not_less (value_cmp (column b.0 0) (column c.0 0)) q))

  pub last_shown : IsLast
  last_shown = go answer.ordered refl
    where
      go : (os : List Output) → answer.ordered ≡ os → IsLast
      go [] e = inl (answer.shown ∙ ap (λ (l : List Output). take 1 (map (λ o. o.1) l)) e, λ r h test. subst (λ l. Has l (out_of r)) e (there_is r h test))
      go (o ∷ os) e =
          let r = comes_from o (subst (λ l. Has l o) (sym e) (inl refl)) in
          let up : IsSortedBy lt (o ∷ os) = subst (λ l. IsSortedBy lt l) e answer.sorted in
          inr (
            r.0,
            r.1,
            r.2,
            answer.shown ∙ ap (λ (l : List Output). take 1 (map (λ o. o.1) l)) e ∙ ap (λ (x : Output). x.1 ∷ []) r.3,
            λ u h test.
                let place = subst (λ l. Has l (out_of u)) e (there_is u h test) in
                let below : lt (out_of u) (out_of r.0) ≡ false = elim place [
                  | inl same ↦ subst (λ w. lt w (out_of r.0) ≡ false) (sym (same ∙ r.3)) (less_not (value_cmp (column r.0 at) (column r.0 at)) (λ low. let e = tied_itself value_cmp_total (column r.0 at) in cc))
                  | inr later ↦ subst (λ w. lt (out_of u) w ≡ false) r.3 (first_most lt still os o up (out_of u) later)
                ] in
                not_less (value_cmp (column r.0 at) (column u at)) below,
          )
