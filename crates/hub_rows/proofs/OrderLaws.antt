-- Rows put in order.
use Rattle.std.specs.Prelude.{◌≡◌, List, [], ◌∷◌, Bool, true, false, cond, filter, find}
use Rattle.std.proofs.Common.{refl, sym, ◌∙◌, ap, arith}
use Rattle.std.specs.Cmp.{IsTotalOrder}
use Rattle.std.specs.List.{AllByRecursion}
use Rattle.std.specs.List.Sorted.{IsStrictlySortedBy}
use Rattle.std.specs.Ordering.{match_ordering, ordering_reverse}
use Rattle.std.specs.declared.cmp.Ordering.{Ordering}
use Rattle.std.specs.declared.cmp.Ordering.TheVariants.{Less, Equal, Greater}
use Rattle.hub_rows.specs.Keyed.{put, in_order, first}
use Rattle.hub_rows.proofs.ListLaws.{RespectsTies, all-put, sorted-put, put-front, filter-put, filter-put_not}

-- what is found is the first that passes
pub find-first : {R : Type 0} (t : R → Bool) (xs : List R) → find t xs ≡ first (filter t xs)
find-first t [] = refl
find-first t (x ∷ xs) = grind (arith, find-first t xs)

module _ {R : Type 0} (cmp : R → R → Ordering) where
  pub all-in_order : (P : R → Type 0) (xs : List R) → AllByRecursion P xs → AllByRecursion P (in_order cmp xs)
  all-in_order P [] all = tt
  all-in_order P (x ∷ xs) all = all-put cmp P x (in_order cmp xs) all.0 (all-in_order P xs all.1)

  -- rows that are in order stay
  pub in_order-sorted : (xs : List R) → IsStrictlySortedBy cmp xs → in_order cmp xs ≡ xs
  unfolding IsStrictlySortedBy
  in_order-sorted [] sorted = refl
  in_order-sorted (x ∷ xs) sorted = ap (put cmp x) (in_order-sorted xs sorted.1) ∙ put-front cmp x xs sorted.0

  -- ---- where a row is put

  put-less : (r y : R) (ys : List R) → cmp r y ≡ Less → put cmp r (y ∷ ys) ≡ r ∷ y ∷ ys
  put-less r y ys e = ap (λ o. match_ordering o (r ∷ y ∷ ys) (r ∷ ys) (y ∷ put cmp r ys)) e

  put-equal : (r y : R) (ys : List R) → cmp r y ≡ Equal → put cmp r (y ∷ ys) ≡ r ∷ ys
  put-equal r y ys e = ap (λ o. match_ordering o (r ∷ y ∷ ys) (r ∷ ys) (y ∷ put cmp r ys)) e

  put-greater : (r y : R) (ys : List R) → cmp r y ≡ Greater → put cmp r (y ∷ ys) ≡ y ∷ put cmp r ys
  put-greater r y ys e = ap (λ o. match_ordering o (r ∷ y ∷ ys) (r ∷ ys) (y ∷ put cmp r ys)) e

  module _ (order : IsTotalOrder cmp) where
    pub sorted-in_order : (xs : List R) → IsStrictlySortedBy cmp (in_order cmp xs)
    unfolding IsStrictlySortedBy
    sorted-in_order [] = tt
    sorted-in_order (x ∷ xs) = sorted-put cmp order x (in_order cmp xs) (sorted-in_order xs)

    -- what passes a test of the key is in order too
    pub filter-in_order : (t : R → Bool) → RespectsTies cmp t → (xs : List R) → filter t (in_order cmp xs) ≡ in_order cmp (filter t xs)
    filter-in_order t ties [] = refl
    filter-in_order t ties (x ∷ xs) =
        elim (t x) as (λ b. t x ≡ b → filter t (put cmp x (in_order cmp xs)) ≡ in_order cmp (cond b (x ∷ filter t xs) (filter t xs))) [
          | true ↦ λ passes. filter-put cmp order t ties x (in_order cmp xs) (sorted-in_order xs) passes ∙ ap (put cmp x) (filter-in_order t ties xs)
          | false ↦ λ fails. filter-put_not cmp t ties x (in_order cmp xs) fails ∙ filter-in_order t ties xs
        ] refl

    turned : (x y : R) (o : Ordering) → cmp x y ≡ o → cmp y x ≡ ordering_reverse o
    turned x y o e = order.antisymm y x ∙ ap ordering_reverse e

    -- the second of two rows of one key stays
    put-again : (g x : R) (ms : List R) → cmp g x ≡ Equal → put cmp g (put cmp x ms) ≡ put cmp g ms
    put-again g x [] tie = put-equal g x [] tie
    put-again g x (m ∷ ms) tie =
        elim (cmp x m) as (λ o. cmp x m ≡ o → put cmp g (put cmp x (m ∷ ms)) ≡ put cmp g (m ∷ ms)) [
          | Less ↦ λ e. ap (put cmp g) (put-less x m ms e) ∙ put-equal g x (m ∷ ms) tie ∙ sym (put-less g m ms (order.congr g x m tie ∙ e))
          | Equal ↦ λ e. ap (put cmp g) (put-equal x m ms e) ∙ put-equal g x ms tie ∙ sym (put-equal g m ms (order.congr g x m tie ∙ e))
          | Greater ↦ λ e. ap (put cmp g) (put-greater x m ms e) ∙ put-greater g m (put cmp x ms) (order.congr g x m tie ∙ e)
              ∙ ap (λ ys. m ∷ ys) (put-again g x ms tie) ∙ sym (put-greater g m ms (order.congr g x m tie ∙ e))
        ] refl

    -- two rows of different keys may be put in either order
    put-swap : (x g : R) (ms : List R) → cmp x g ≡ Less → put cmp x (put cmp g ms) ≡ put cmp g (put cmp x ms)
    put-swap x g [] below = put-less x g [] below ∙ sym (put-greater g x [] (turned x g Less below))
    put-swap x g (m ∷ ms) below =
        let above : cmp g x ≡ Greater = turned x g Less below in
        let behind : put cmp g (x ∷ m ∷ ms) ≡ x ∷ put cmp g (m ∷ ms) = put-greater g x (m ∷ ms) above in
        elim (cmp g m) as (λ o. cmp g m ≡ o → put cmp x (put cmp g (m ∷ ms)) ≡ put cmp g (put cmp x (m ∷ ms))) [
          | Less ↦ λ e. let here : put cmp g (m ∷ ms) ≡ g ∷ m ∷ ms = put-less g m ms e in
              ap (put cmp x) here ∙ put-less x g (m ∷ ms) below ∙ ap (λ ys. x ∷ ys) (sym here) ∙ sym behind ∙ ap (put cmp g) (sym (put-less x m ms (order.trans x g m below e)))
          | Equal ↦ λ e. let here : put cmp g (m ∷ ms) ≡ g ∷ ms = put-equal g m ms e in
              let low : cmp x m ≡ Less = turned m x Greater (sym (order.congr g m x e) ∙ above) in
              ap (put cmp x) here ∙ put-less x g ms below ∙ ap (λ ys. x ∷ ys) (sym here) ∙ sym behind ∙ ap (put cmp g) (sym (put-less x m ms low))
          | Greater ↦ λ e. let here : put cmp g (m ∷ ms) ≡ m ∷ put cmp g ms = put-greater g m ms e in
              elim (cmp x m) as (λ p. cmp x m ≡ p → put cmp x (put cmp g (m ∷ ms)) ≡ put cmp g (put cmp x (m ∷ ms))) [
                | Less ↦ λ q. ap (put cmp x) here ∙ put-less x m (put cmp g ms) q ∙ ap (λ ys. x ∷ ys) (sym here) ∙ sym behind ∙ ap (put cmp g) (sym (put-less x m ms q))
                | Equal ↦ λ q. ap (put cmp x) here ∙ put-equal x m (put cmp g ms) q ∙ sym (put-greater g x ms above) ∙ ap (put cmp g) (sym (put-equal x m ms q))
                | Greater ↦ λ q. ap (put cmp x) here ∙ put-greater x m (put cmp g ms) q ∙ ap (λ ys. m ∷ ys) (put-swap x g ms below) ∙ sym (put-greater g m (put cmp x ms) e) ∙ ap (put cmp g) (sym (put-greater x m ms q))
              ] refl
        ] refl

    -- a row put by one key and then in order by another, where the two tell the same rows apart
    pub in_order-put : (d : R → R → Ordering) → ((x y : R) → d x y ≡ Equal → cmp x y ≡ Equal) → ((x y : R) → cmp x y ≡ Equal → d x y ≡ Equal) → (g : R) (xs : List R) → in_order cmp (put d g xs) ≡ put cmp g (in_order cmp xs)
    in_order-put d ties apart g [] = refl
    in_order-put d ties apart g (x ∷ xs) =
        let rest : List R = in_order cmp xs in
        elim (d g x) as (λ o. d g x ≡ o → in_order cmp (match_ordering o (g ∷ x ∷ xs) (g ∷ xs) (x ∷ put d g xs)) ≡ put cmp g (put cmp x rest)) [
          | Less ↦ λ e. refl
          | Equal ↦ λ e. sym (put-again g x rest (ties g x e))
          | Greater ↦ λ e. ap (put cmp x) (in_order-put d ties apart g xs)
              ∙ elim (cmp g x) as (λ p. cmp g x ≡ p → put cmp x (put cmp g rest) ≡ put cmp g (put cmp x rest)) [
                | Less ↦ λ q. sym (put-swap g x rest q)
                | Equal ↦ λ q. (let clash : Equal ≡ Greater = sym (apart g x q) ∙ e in absurd (cc))
                | Greater ↦ λ q. put-swap x g rest (turned g x Greater q)
              ] refl
        ] refl
