-- Lists whose rows all change: what one operator sees of them, and their order.
use Rattle.std.specs.Prelude.{◌≡◌, ℕ, List, [], ◌∷◌, map}
use Rattle.std.proofs.Common.{refl, ◌∙◌, arith}
use Rattle.std.specs.List.{AllByRecursion}
use Rattle.std.specs.List.Sorted.{IsStrictlySortedBy}
use Rattle.std.specs.declared.cmp.Ordering.TheVariants.{Less}
use Rattle.hub_rows.specs.Keyed.{by_key, key_cmp, own}

-- all rows are changed, and keep their operators
pub own-map : {R : Type 0} (op : R → List ℕ) (f : R → R) → ((r : R) → op (f r) ≡ op r) → (a : List ℕ) (rows : List R) → own op a (map f rows) ≡ map f (own op a rows)
own-map op f stays a [] = refl
own-map op f stays a (r ∷ rows) = grind (arith, own-map op f stays a rows, stays r)

-- all rows are changed, and keep their keys
all-mapped : {R : Type 0} (key : R → List (List ℕ)) (f : R → R) → ((r : R) → key (f r) ≡ key r) → (r : R) (rows : List R) → AllByRecursion (λ x. by_key key r x ≡ Less) rows → AllByRecursion (λ x. by_key key (f r) x ≡ Less) (map f rows)
all-mapped key f stays r [] all = tt
all-mapped key f stays r (x ∷ rows) all = ((λ i. key_cmp (stays r i) (stays x i)) ∙ all.0, all-mapped key f stays r rows all.1)

pub sorted-map : {R : Type 0} (key : R → List (List ℕ)) (f : R → R) → ((r : R) → key (f r) ≡ key r) → (rows : List R) → IsStrictlySortedBy (by_key key) rows → IsStrictlySortedBy (by_key key) (map f rows)
unfolding IsStrictlySortedBy
sorted-map key f stays [] sorted = tt
sorted-map key f stays (r ∷ rows) sorted = (all-mapped key f stays r rows sorted.0, sorted-map key f stays rows sorted.1)
