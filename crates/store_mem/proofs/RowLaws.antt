-- Lists of rows: their parts, and their order.
use Rattle.std.specs.Prelude.{◌≡◌, ℕ, List, [], ◌∷◌, ◌++◌, Bool, true, false, cond, filter, map}
use Rattle.std.specs.List.{AllByRecursion}
use Rattle.std.specs.List.Sorted.{IsStrictlySortedBy}
use Rattle.std.specs.declared.cmp.Ordering.TheVariants.{Less}
use Rattle.std.proofs.Common.{refl, sym, ◌∙◌, ap, subst}
use Rattle.hub_rows.specs.Keyed.{key_cmp, by_key}
use Rattle.hub_rows.proofs.PlaceLaws.{map-append}

-- ---- lists

-- of those that pass a test none was dropped
pub filter-kept : {R : Type 0} (t stays : R → Bool) (xs : List R) → AllByRecursion (λ x. t x ≡ true → stays x ≡ true) xs → filter t (filter stays xs) ≡ filter t xs
filter-kept t stays [] all = refl
filter-kept t stays (x ∷ xs) all =
    elim (stays x) as (λ b. stays x ≡ b → filter t (cond b (x ∷ filter stays xs) (filter stays xs)) ≡ cond (t x) (x ∷ filter t xs) (filter t xs)) [
      | true ↦ λ e. ap (λ ys. cond (t x) (x ∷ ys) ys) (filter-kept t stays xs all.1)
      | false ↦ λ e. filter-kept t stays xs all.1 ∙ sym (ap (λ b. cond b (x ∷ filter t xs) (filter t xs)) (fails e))
    ] refl
  where
    fails : stays x ≡ false → t x ≡ false
    fails e = elim (t x) as (λ b. t x ≡ b → b ≡ false) [ true ↦ λ passes. sym (all.0 passes) ∙ e | false ↦ λ passes. refl ] refl

-- two tests one after the other, where the second answers alike on what passes the first
pub filter-swap : {R : Type 0} (t stays keeps : R → Bool) → ((x : R) → t x ≡ true → stays x ≡ keeps x) → (xs : List R) → filter t (filter stays xs) ≡ filter keeps (filter t xs)
filter-swap t stays keeps alike [] = refl
filter-swap t stays keeps alike (x ∷ xs) =
    let more = filter-swap t stays keeps alike xs in
    elim (t x) as (λ a. t x ≡ a → filter t (cond (stays x) (x ∷ filter stays xs) (filter stays xs)) ≡ filter keeps (cond a (x ∷ filter t xs) (filter t xs))) [
      | true ↦ λ passes. elim (stays x) as (λ b. stays x ≡ b → filter t (cond b (x ∷ filter stays xs) (filter stays xs)) ≡ cond (keeps x) (x ∷ filter keeps (filter t xs)) (filter keeps (filter t xs))) [
        | true ↦ λ e. ap (λ b. cond b (x ∷ filter t (filter stays xs)) (filter t (filter stays xs))) passes ∙ ap (λ ys. x ∷ ys) more
            ∙ sym (ap (λ b. cond b (x ∷ filter keeps (filter t xs)) (filter keeps (filter t xs))) (sym (alike x passes) ∙ e))
        | false ↦ λ e. more ∙ sym (ap (λ b. cond b (x ∷ filter keeps (filter t xs)) (filter keeps (filter t xs))) (sym (alike x passes) ∙ e))
      ] refl
      | false ↦ λ fails. elim (stays x) as (λ b. filter t (cond b (x ∷ filter stays xs) (filter stays xs)) ≡ filter keeps (filter t xs)) [
        | true ↦ ap (λ b. cond b (x ∷ filter t (filter stays xs)) (filter t (filter stays xs))) fails ∙ more
        | false ↦ more
      ]
    ] refl

-- ---- the order

-- the order depends on the keys alone
module _ {R : Type 0} (key : R → List (List ℕ)) where
  keys-up : (P : List (List ℕ) → Type 0) (xs : List R) → AllByRecursion (λ x. P (key x)) xs → AllByRecursion P (map key xs)
  keys-up P [] all = tt
  keys-up P (x ∷ xs) all = (all.0, keys-up P xs all.1)

  keys-down : (P : List (List ℕ) → Type 0) (xs : List R) → AllByRecursion P (map key xs) → AllByRecursion (λ x. P (key x)) xs
  keys-down P [] all = tt
  keys-down P (x ∷ xs) all = (all.0, keys-down P xs all.1)

  sorted-up : (xs : List R) → IsStrictlySortedBy (by_key key) xs → IsStrictlySortedBy key_cmp (map key xs)
  unfolding IsStrictlySortedBy
  sorted-up [] sorted = tt
  sorted-up (x ∷ xs) sorted = (keys-up (λ k. key_cmp (key x) k ≡ Less) xs sorted.0, sorted-up xs sorted.1)

  sorted-down : (xs : List R) → IsStrictlySortedBy key_cmp (map key xs) → IsStrictlySortedBy (by_key key) xs
  unfolding IsStrictlySortedBy
  sorted-down [] sorted = tt
  sorted-down (x ∷ xs) sorted = (keys-down (λ k. key_cmp (key x) k ≡ Less) xs sorted.0, sorted-down xs sorted.1)

  -- a change that keeps the keys
  pub sorted-kept : (g : R → R) → ((r : R) → key (g r) ≡ key r) → (xs : List R) → IsStrictlySortedBy (by_key key) xs → IsStrictlySortedBy (by_key key) (map g xs)
  sorted-kept g same xs sorted = sorted-down (map g xs) (subst (IsStrictlySortedBy key_cmp) (sym (same-keys xs)) (sorted-up xs sorted))
    where
      same-keys : (xs : List R) → map key (map g xs) ≡ map key xs
      same-keys [] = refl
      same-keys (x ∷ xs) = λ i. same x i ∷ same-keys xs i

  pub sorted-swap : (front back : List R) (x y : R) → key y ≡ key x → IsStrictlySortedBy (by_key key) (front ++ x ∷ back) → IsStrictlySortedBy (by_key key) (front ++ y ∷ back)
  sorted-swap front back x y same sorted =
      sorted-down (front ++ y ∷ back) (subst (IsStrictlySortedBy key_cmp)
      (map-append key front (x ∷ back) ∙ (λ i. map key front ++ sym same i ∷ map key back) ∙ sym (map-append key front (y ∷ back)))
      (sorted-up (front ++ x ∷ back) sorted))
