-- The same rows in another order.
use Rattle.std.proofs.Common.{◌≡◌, ◌⊎◌, List, [], ◌∷◌, Ordering, Less, Equal, Greater, refl, sym, subst, inl, inr}
use Rattle.std.specs.Cmp.{IsTotalOrder}
use Rattle.std.specs.List.Sorted.{IsStrictlySortedBy}
use Rattle.std.proofs.lemmas.Cmp.{tied_itself}
use Rattle.sqlite_rules.specs.Lists.{Has}
use Rattle.hub_rows.specs.Grants.{received_key}
use Rattle.hub_rows.specs.Keyed.{by_key, key_cmp, in_order, put, put_all}
use Rattle.hub_rows.specs.Rows.{grant_key}
use Rattle.hub_rows.specs.declared.grant_row.GrantRow.{GrantRow}
use Rattle.hub_rows.proofs.ListLaws.{by_key_total, keys_total, same_key, sorted-put}
use Rattle.sql_rows.proofs.MemberLaws.{IsSingle, same_elements, has_new, put_from, put_spares, is_arranged, arranged_from, arranged_has}

module _ {R : Type 0} (cmp : R → R → Ordering) (o : IsTotalOrder cmp) where
  sorted-in_order : (xs : List R) → IsStrictlySortedBy cmp (in_order cmp xs)
  unfolding IsStrictlySortedBy
  sorted-in_order [] = tt
  sorted-in_order (x ∷ xs) = sorted-put cmp o x (in_order cmp xs) (sorted-in_order xs)

  in_order_from : (xs : List R) (y : R) → Has (in_order cmp xs) y → Has xs y
  in_order_from [] y h = absurd h
  in_order_from (x ∷ xs) y h = elim (put_from cmp o x (in_order cmp xs) y (sorted-in_order xs) h) [ inl same ↦ inl same | inr old ↦ inr (in_order_from xs y old.0) ]

  is_tied : (c : Ordering) → (c ≡ Equal) ⊎ (c ≡ Equal → ⊥)
  is_tied Less = inr (λ e. cc)
  is_tied Equal = inl refl
  is_tied Greater = inr (λ e. cc)

  in_order_has : (xs : List R) (y : R) → IsSingle cmp o xs → Has xs y → Has (in_order cmp xs) y
  in_order_has [] y once h = absurd h
  in_order_has (x ∷ xs) y once (inl same) = subst (Has (put cmp x (in_order cmp xs))) (sym same) (has_new cmp o x (in_order cmp xs))
  in_order_has (x ∷ xs) y once (inr later) = elim (is_tied (cmp y x)) [
    | inl tie ↦ subst (Has (put cmp x (in_order cmp xs))) (sym (once y x (inr later) (inl refl) tie)) (has_new cmp o x (in_order cmp xs))
    | inr apart ↦ put_spares cmp o x (in_order cmp xs) y (in_order_has xs y (λ a b h k. once a b (inr h) (inr k)) later) apart
  ]

-- rows that are put in one order come to those of another order, put in it
module _ {R : Type 0} (c d : R → R → Ordering) (oc : IsTotalOrder c) (od : IsTotalOrder d) (ties : (a b : R) → d a b ≡ Equal → c a b ≡ Equal) (xs ys : List R) (once : IsSingle c oc xs) (are : put_all c xs [] ≡ ys) where
  from_ys : (t : R) → Has ys t → Has xs t
  from_ys t h = arranged_from c oc xs t (subst (λ l. Has l t) (sym are) h)

  to_ys : (t : R) → Has xs t → Has ys t
  to_ys t h = subst (λ l. Has l t) are (arranged_has c oc xs t once h)

  pub reordered : put_all d xs [] ≡ in_order d ys
  reordered =
      same_elements d od _ _ (is_arranged d od xs) (sorted-in_order d od ys)
      (λ t h. in_order_has d od ys t (λ a b h k tie. once a b (from_ys a h) (from_ys b k) (ties a b tie)) (to_ys t (arranged_from d od xs t h)))
      (λ t h. arranged_has d od xs t (λ a b h k tie. once a b h k (ties a b tie)) (from_ys t (in_order_from d od ys t h)))

key_parts : (a b : GrantRow) → received_key a ≡ received_key b → grant_key a ≡ grant_key b
key_parts a b e = let to : a.to ≡ b.to = cc in let key : a.key ≡ b.key = cc in let op : a.op ≡ b.op = cc in λ i. op i ∷ key i ∷ to i ∷ []

pub received_ties : (a b : GrantRow) → by_key received_key a b ≡ Equal → by_key grant_key a b ≡ Equal
received_ties a b tie = subst (λ k. key_cmp (grant_key a) k ≡ Equal) (key_parts a b (same_key (received_key a) (received_key b) tie)) (tied_itself keys_total (grant_key a))

-- grants that are shown, in the order of their receivers
pub in_received : (xs ys : List GrantRow) → IsSingle (by_key grant_key) (by_key_total grant_key) xs → put_all (by_key grant_key) xs [] ≡ ys → put_all (by_key received_key) xs [] ≡ in_order (by_key received_key) ys
in_received = reordered (by_key grant_key) (by_key received_key) (by_key_total grant_key) (by_key_total received_key) received_ties
