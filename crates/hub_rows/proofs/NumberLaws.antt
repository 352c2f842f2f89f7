-- Rows in the order of their numbers, those of one station.
use Rattle.std.specs.Prelude.{◌≡◌, ℕ, ◌-◌, Some, ◌<◌, ◌≤◌, max, List, [], ◌∷◌, length, ◌&&◌, filter, find, map, Bool}
use Rattle.std.specs.List.{AllByRecursion, slice_get}
use Rattle.std.specs.List.Sorted.{IsStrictlySortedBy}
use Rattle.std.specs.Ordering.{nat_cmp, ordering_then, MatchOrdering}
use Rattle.std.specs.Cmp.{nat_cmp_is, ranked}
use Rattle.std.specs.declared.cmp.Ordering.TheVariants.{Less, Equal, Greater}
use Rattle.std.proofs.Common.{refl, sym, ◌∙◌, ap, subst, arith}
use Rattle.std.proofs.Math.Nat.{le-max_left, le-max_right, max-zero, max-eq_right}
use Rattle.std.proofs.lemmas.Cmp.{tied_itself, nat_list_cmp_total}
use Rattle.hub_rows.specs.Keyed.{key_cmp, by_key, number_key, found, those, greatest}

-- ---- those of one station

-- what one looks for is found among the rows of one station
pub found-those : {R : Type 0} (op : R → List ℕ) (b : List ℕ) (p q : R → Bool) (xs : List R) → found op b (λ r. p r && q r) xs ≡ find q (those op b p xs)
found-those op b p q [] = refl
found-those op b p q (x ∷ xs) = grind (arith, found-those op b p q xs)

pub those-those : {R : Type 0} (op : R → List ℕ) (b : List ℕ) (p q : R → Bool) (xs : List R) → those op b (λ r. p r && q r) xs ≡ filter q (those op b p xs)
those-those op b p q [] = refl
those-those op b p q (x ∷ xs) = grind (arith, those-those op b p q xs)

-- keys of one station compare by their numbers
pub same_station : (a b : List ℕ) (k l : List (List ℕ)) → key_cmp (a ∷ b ∷ k) (a ∷ b ∷ l) ≡ key_cmp k l
same_station a b k l = λ i. ordering_then (tied_itself nat_list_cmp_total a i) (ordering_then (tied_itself nat_list_cmp_total b i) (key_cmp k l))

-- ---- their order

-- the order of numbers, as parts of keys
pub number_order : (m n : ℕ) → key_cmp ((m ∷ []) ∷ []) ((n ∷ []) ∷ []) ≡ nat_cmp m n
number_order m n = elim (nat_cmp m n) as (λ o. ordering_then (ordering_then o Equal) Equal ≡ o) [ Less ↦ refl | Equal ↦ refl | Greater ↦ refl ]

pub number-less : (m n : ℕ) → m < n → key_cmp ((m ∷ []) ∷ []) ((n ∷ []) ∷ []) ≡ Less
number-less m n below = number_order m n ∙ sym (nat_cmp_is m n Less below)

some_same : {R : Type 0} (r x : R) → Some r ≡ Some x → r ≡ x
some_same r x e = cc

pub less-number : (m n : ℕ) → key_cmp ((m ∷ []) ∷ []) ((n ∷ []) ∷ []) ≡ Less → m < n
less-number m n e = subst (λ o. MatchOrdering o (m < n) (m ≡ n) (n < m)) (sym (number_order m n) ∙ e) (ranked m n (nat_cmp m n) refl)

pub number-greater : (m n : ℕ) → n < m → key_cmp ((m ∷ []) ∷ []) ((n ∷ []) ∷ []) ≡ Greater
number-greater m n above = number_order m n ∙ sym (nat_cmp_is m n Greater above)

-- ---- the greatest number

pub all-above : {R : Type 0} (number : R → ℕ) (n : ℕ) (xs : List R) → greatest (map number xs) < n → AllByRecursion (λ x. number x < n) xs
all-above number n [] below = tt
all-above number n (x ∷ xs) below =
    let here : number x ≤ max (number x) (greatest (map number xs)) = le-max_left (number x) (greatest (map number xs)) in
    let there : greatest (map number xs) ≤ max (number x) (greatest (map number xs)) = le-max_right (number x) (greatest (map number xs)) in
    (omega (arith, here, there), all-above number n xs (omega (arith, here, there)))

-- the greatest is the last, in the order of the numbers
last_from : {R : Type 0} (number : R → ℕ) (x : R) (xs : List R) (r : R) → IsStrictlySortedBy (by_key (number_key number)) (x ∷ xs) → Some r ≡ slice_get (x ∷ xs) (length xs) → number r ≡ greatest (map number (x ∷ xs))
unfolding IsStrictlySortedBy
last_from number x [] r sorted is = ap number (some_same r x is) ∙ sym (max-zero (number x))
last_from number x (y ∷ xs) r sorted is =
    let low : number x < number y = less-number (number x) (number y) sorted.0.0 in
    let high : number y ≤ greatest (map number (y ∷ xs)) = le-max_left (number y) (greatest (map number xs)) in
    last_from number y xs r sorted.1 is ∙ sym (max-eq_right (omega (arith, low, high)))

pub last_greatest : {R : Type 0} (number : R → ℕ) (xs : List R) (r : R) → IsStrictlySortedBy (by_key (number_key number)) xs → Some r ≡ slice_get xs (length xs - 1) → number r ≡ greatest (map number xs)
last_greatest number [] r sorted is = absurd (cc)
last_greatest number (x ∷ xs) r sorted is =
    let here : length (x ∷ xs) - 1 ≡ length xs = omega arith in
    last_from number x xs r sorted (is ∙ ap (slice_get (x ∷ xs)) here)
