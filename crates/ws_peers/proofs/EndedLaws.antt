-- The places of the items that fail a test.
use Rattle.std.proofs.Common.{arith, inl, inr, add-one, ◌≡◌, ◌≢◌, ◌∙◌, ℕ, zero, suc, ◌+◌, ◌<◌, ◌≤◌, ◌⊎◌, List, [], ◌∷◌, ◌++◌, length, map, drop, drop-cons, drop_of_length-le, get_or, set, sym, ap, refl, Bool, true, false, not, true≢false, nat_eq, ◌||◌, if◌then◌else◌, subst}
use Rattle.std.proofs.lemmas.List.{get_or-set_other, get_or_default, get_or-map, length-map, length-set, ext_get_or}
use Rattle.std.proofs.Math.Bool.{cond}
use Rattle.std.proofs.lemmas.Grind.{get_or-set_at}
use Rattle.std.proofs.lemmas.List.Elements.{Contains-append_left, Contains-push}
use Rattle.std.proofs.lemmas.List.Sorted.{Contains-permutation}
use Rattle.std.specs.List.{Contains, filter, list_any}
use Rattle.std.specs.List.Sorted.{IsPermutation}
use Rattle.ws_peers.specs.Peers.{fails_at, FailsOnlyAt, is_open_peer}
use Rattle.ws_peers.specs.declared.peer.Peer.{Peer}
use Rattle.ws_peers.proofs.ListLaws.{both}

-- two numbers are the same, or they aren't
pub by_case : {P : Type 0} (m n : ℕ) → (m ≡ n → P) → (m ≢ n → P) → P
by_case zero zero same other = same refl
by_case zero (suc n) same other = other (λ e. omega (arith, e))
by_case (suc m) zero same other = other (λ e. omega (arith, e))
by_case (suc m) (suc n) same other = by_case m n (λ e. same (ap suc e)) (λ differs. other (λ e. differs (omega (arith, e))))

pub either : {P Q R : Type 0} → P ⊎ Q → (P → R) → (Q → R) → R
either (inl p) left right = left p
either (inr q) left right = right q

-- ---- places in a list

rest_at : (places : List ℕ) (n k i : ℕ) → i < suc (length places) → get_or (n ∷ places) i k ≡ k → (n ≡ k → ⊥) → Contains places k
rest_at places n k zero small is differs = absurd (differs is)
rest_at places n k (suc i) small is differs = (i, omega (arith, small), is)

pub contains_rest : (places : List ℕ) (n k : ℕ) → Contains (n ∷ places) k → (n ≡ k → ⊥) → Contains places k
contains_rest places n k c differs = rest_at places n k c.0 c.1 c.2 differs

-- of those that are left all but the next
pub contains_next : (places : List ℕ) (i k : ℕ) → i < length places → Contains (drop i places) k → k ≢ get_or places i 0 → Contains (drop (i + 1) places) k
contains_next places i k small c differs =
    rw add-one (contains_rest (drop (suc i) places) (get_or places i 0) k (subst (λ ns. Contains ns k) (drop-cons places i 0 small) c) (λ e. differs (sym e)))

pub contains_none : (places : List ℕ) (i k : ℕ) → length places ≤ i → Contains (drop i places) k → ⊥
contains_none places i k all c = none (subst (λ ns. Contains ns k) (drop_of_length-le places all) c) where
  none : Contains [] k → ⊥
  none c = omega (arith, c.1)

pub contains_cons : (places : List ℕ) (n k : ℕ) → Contains places k → Contains (n ∷ places) k
contains_cons places n k c = (suc c.0, omega (arith, c.1), c.2)

longer : (was : Bool) (places : List ℕ) (n k : ℕ) → Contains places k → Contains (if was then n ∷ places else places) k
longer true places n k c = contains_cons places n k c
longer false places n k c = c

here : (was : Bool) (places : List ℕ) (n k : ℕ) → k ≡ n → (was ≡ false → Contains places k) → Contains (if was then n ∷ places else places) k
here true places n k e c = (0, omega arith, sym e)
here false places n k e c = c refl

at_end : (places : List ℕ) (n k i : ℕ) → i < suc (length places) → get_or (n ∷ places) i k ≡ k → Contains (places ++ n ∷ []) k
at_end places n k zero small is = subst (λ m. Contains (places ++ n ∷ []) m) is (Contains-push places n)
at_end places n k (suc i) small is = Contains-append_left places (n ∷ []) k (i, omega (arith, small), is)

-- what the test of a list says
place_among : (places : List ℕ) (k : ℕ) → list_any (λ n. nat_eq n k) places ≡ true → Contains places k
place_among [] k e = absurd (true≢false (sym e))
place_among (n ∷ places) k e = both (nat_eq n k)
    (λ same. let is : n ≡ k = grind (arith, same) in (0, omega arith, is))
    (λ differs. contains_cons places n k (place_among places k (sym (ap (λ b. b || list_any (λ m. nat_eq m k) places) differs) ∙ e)))

among_at : (places : List ℕ) (k i : ℕ) → i < length places → get_or places i k ≡ k → list_any (λ n. nat_eq n k) places ≡ true
among_at [] k i small is = absurd (omega (arith, small))
among_at (n ∷ places) k zero small is =
    let same : nat_eq n k ≡ true = grind (arith, is) in
    ap (λ b. b || list_any (λ m. nat_eq m k) places) same
among_at (n ∷ places) k (suc i) small is =
    let more = among_at places k i (omega (arith, small)) is in
    grind (arith, more)

module _ {A : Type 0} (f : A → Bool) where
  pub only_at : (places : List ℕ) (xs : List A) → FailsOnlyAt f places xs → (k : ℕ) → fails_at f xs k ≡ true → Contains places k
  only_at places xs only k fails = place_among places k (only k fails)

  pub listing : (places : List ℕ) (xs : List A) → ((k : ℕ) → fails_at f xs k ≡ true → Contains places k) → FailsOnlyAt f places xs
  listing places xs at k fails = let c = at k fails in among_at places k c.0 c.1 c.2

-- ---- items that fail

module _ {A : Type 0} (f : A → Bool) where
  pub fails_within : (xs : List A) (n : ℕ) → fails_at f xs n ≡ true → n < length xs
  fails_within [] n e = absurd (true≢false (sym e))
  fails_within (x ∷ xs) zero e = omega arith
  fails_within (x ∷ xs) (suc n) e = omega (arith, fails_within xs n e)

  pub fails_in : (xs : List A) (n : ℕ) (d : A) → n < length xs → fails_at f xs n ≡ not (f (get_or xs n d))
  fails_in [] n d small = absurd (omega (arith, small))
  fails_in (x ∷ xs) zero d small = refl
  fails_in (x ∷ xs) (suc n) d small = fails_in xs n d (omega (arith, small))

  -- what a test of one place says
  pub says_in : (xs : List A) (n : ℕ) (d : A) (b : Bool) → n < length xs → b ≡ f (get_or xs n d) → not b ≡ fails_at f xs n
  says_in xs n d b small is = ap not is ∙ sym (fails_in xs n d small)

  pub says_out : (xs : List A) (n : ℕ) → length xs ≤ n → false ≡ fails_at f xs n
  says_out [] n few = refl
  says_out (x ∷ xs) zero few = absurd (omega (arith, few))
  says_out (x ∷ xs) (suc n) few = says_out xs n (omega (arith, few))

  pub fails_other : (xs : List A) (n k : ℕ) (y : A) → k ≢ n → fails_at f (set xs n y) k ≡ fails_at f xs k
  fails_other [] n k y differs = refl
  fails_other (x ∷ xs) zero zero y differs = absurd (differs refl)
  fails_other (x ∷ xs) zero (suc k) y differs = refl
  fails_other (x ∷ xs) (suc n) zero y differs = refl
  fails_other (x ∷ xs) (suc n) (suc k) y differs = fails_other xs n k y (λ e. differs (ap suc e))

  pub fails_front : (xs : List A) (y : A) (k : ℕ) → k ≢ length xs → fails_at f (xs ++ y ∷ []) k ≡ fails_at f xs k
  fails_front [] y zero differs = absurd (differs refl)
  fails_front [] y (suc k) differs = refl
  fails_front (x ∷ xs) y zero differs = refl
  fails_front (x ∷ xs) y (suc k) differs = fails_front xs y k (λ e. differs (ap suc e))

  fails_last : (xs : List A) (y : A) → fails_at f (xs ++ y ∷ []) (length xs) ≡ not (f y)
  fails_last [] y = refl
  fails_last (x ∷ xs) y = fails_last xs y

  pub fails_map : (g : A → A) → ((x : A) → f (g x) ≡ f x) → (xs : List A) (n : ℕ) → fails_at f (map g xs) n ≡ fails_at f xs n
  fails_map g same [] n = refl
  fails_map g same (x ∷ xs) zero = ap not (same x)
  fails_map g same (x ∷ xs) (suc n) = fails_map g same xs n

  -- what fails another test
  pub fails_too : (g : A → Bool) → ((x : A) → g x ≡ false → f x ≡ false) → (xs : List A) (n : ℕ) → fails_at g xs n ≡ true → fails_at f xs n ≡ true
  fails_too g too [] n e = e
  fails_too g too (x ∷ xs) zero e = both (g x) (λ passes. absurd (true≢false (sym e ∙ ap not passes))) (λ fails. ap not (too x fails))
  fails_too g too (x ∷ xs) (suc n) e = fails_too g too xs n e

  -- ---- the places of all that fail

  -- one item changes
  pub fails_set : (places : List ℕ) (xs : List A) (n : ℕ) (d y : A) (was : Bool) → was ≡ f (get_or xs n d) → FailsOnlyAt f places xs → FailsOnlyAt f (if was then n ∷ places else places) (set xs n y)
  fails_set places xs n d y was is only = listing f _ _ (λ k fails.
      let within : k < length xs = omega (arith, fails_within (set xs n y) k fails, length-set xs n y) in
      by_case k n
      (λ same. here was places n k same (λ ended. only_at f places xs only k (fails_in xs k d within ∙ ap (λ i. not (f (get_or xs i d))) same ∙ ap not (sym is ∙ ended))))
      (λ other. longer was places n k (only_at f places xs only k (sym (fails_other xs n k y other) ∙ fails))))

  -- one that passes is added
  pub fails_pushed : (places : List ℕ) (xs ys : List A) (y : A) → ys ≡ xs ++ y ∷ [] → f y ≡ true → FailsOnlyAt f places xs → FailsOnlyAt f places ys
  fails_pushed places xs ys y is passes only = subst (FailsOnlyAt f places) (sym is) (listing f _ _ (λ k fails. by_case k (length xs)
      (λ same. absurd (true≢false (sym fails ∙ ap (fails_at f (xs ++ y ∷ [])) same ∙ fails_last xs y ∙ ap not passes)))
      (λ other. only_at f places xs only k (sym (fails_front xs y k other) ∙ fails))))

  -- one is added, and its place is listed
  pub fails_added : (places : List ℕ) (xs ys : List A) (y : A) (n : ℕ) → ys ≡ xs ++ y ∷ [] → n ≡ length xs → FailsOnlyAt f places xs → FailsOnlyAt f (n ∷ places) ys
  fails_added places xs ys y n is place only = subst (FailsOnlyAt f (n ∷ places)) (sym is) (listing f (n ∷ places) (xs ++ y ∷ []) (λ k fails. by_case k (length xs)
      (λ same. (0, omega arith, place ∙ sym same))
      (λ other. contains_cons places n k (only_at f places xs only k (sym (fails_front xs y k other) ∙ fails)))))

  -- one that passes needn't be listed
  pub fails_less : (places : List ℕ) (xs : List A) (n : ℕ) → fails_at f xs n ≡ false → FailsOnlyAt f (n ∷ places) xs → FailsOnlyAt f places xs
  fails_less places xs n passes only = listing f _ _ (λ k fails. contains_rest places n k (only_at f (n ∷ places) xs only k fails) (λ e. true≢false (sym fails ∙ ap (fails_at f xs) (sym e) ∙ passes)))

  -- a place is listed last
  pub fails_last_listed : (places more : List ℕ) (xs : List A) (n : ℕ) → more ≡ places ++ n ∷ [] → FailsOnlyAt f (n ∷ places) xs → FailsOnlyAt f more xs
  fails_last_listed places more xs n is only = subst (λ ns. FailsOnlyAt f ns xs) (sym is) (listing f _ _ (λ k fails. let c = only_at f (n ∷ places) xs only k fails in at_end places n k c.0 c.1 c.2))

  -- the places up to n are listed
  abbrev pub ListedTo : ℕ → List ℕ → List A → Type 0
  ListedTo n places xs = (k : ℕ) → k < n → fails_at f xs k ≡ true → Contains places k

  pub listed_on : (places more : List ℕ) (xs : List A) (n : ℕ) (b : Bool) → b ≡ fails_at f xs n → more ≡ (if b then places ++ n ∷ [] else places) → ListedTo n places xs → ListedTo (n + 1) more xs
  listed_on places more xs n b is put to = λ k small fails. subst (λ ns. Contains ns k) (sym put)
      (by_case k n
      (λ same. elim b as (λ b. b ≡ fails_at f xs n → Contains (if b then places ++ n ∷ [] else places) k) [
        | true ↦ λ is. subst (λ m. Contains (places ++ n ∷ []) m) (sym same) (Contains-push places n)
        | false ↦ λ is. absurd (true≢false (sym fails ∙ ap (fails_at f xs) same ∙ sym is))
      ] is)
      (λ other.
      let c = to k (omega (arith, small, other)) fails in
      elim b as (λ b. Contains (if b then places ++ n ∷ [] else places) k) [
        | true ↦ Contains-append_left places (n ∷ []) k c
        | false ↦ c
      ]))

  pub listed_end : (places : List ℕ) (xs : List A) (n : ℕ) → length xs ≤ n → ListedTo n places xs → FailsOnlyAt f places xs
  listed_end places xs n all to = listing f _ _ (λ k fails. to k (omega (arith, fails_within xs k fails, all)) fails)

  -- of the places those at which an item fails
  kept : (places : List ℕ) (xs : List A) (k i : ℕ) → i < length places → get_or places i k ≡ k → fails_at f xs k ≡ true → Contains (filter (fails_at f xs) places) k
  kept [] xs k i small is fails = absurd (omega (arith, small))
  kept (n ∷ places) xs k zero small is fails =
      let here : fails_at f xs n ≡ true = ap (fails_at f xs) is ∙ fails in
      let first : Contains (n ∷ filter (fails_at f xs) places) k = (0, omega arith, is) in
      grind (arith, here, first)
  kept (n ∷ places) xs k (suc i) small is fails =
      let more = kept places xs k i (omega (arith, small)) is fails in
      elim (fails_at f xs n) as (λ b. Contains (cond b (n ∷ filter (fails_at f xs) places) (filter (fails_at f xs) places)) k) [
        | true ↦ contains_cons (filter (fails_at f xs) places) n k more
        | false ↦ more
      ]

  pub fails_kept : (places more : List ℕ) (xs : List A) → more ≡ filter (fails_at f xs) places → FailsOnlyAt f places xs → FailsOnlyAt f more xs
  fails_kept places more xs is only = subst (λ ns. FailsOnlyAt f ns xs) (sym is) (listing f _ _ (λ k fails. let c = only_at f places xs only k fails in kept places xs k c.0 c.1 c.2 fails))

  -- in another order
  pub fails_moved : (places more : List ℕ) (xs : List A) → IsPermutation places more → FailsOnlyAt f places xs → FailsOnlyAt f more xs
  fails_moved places more xs moved only = listing f more xs (λ k fails. Contains-permutation places more k moved (only_at f places xs only k fails))

  -- ---- a change of those that fail

  module _ (g : A → A) (passes_stay : (x : A) → f x ≡ true → x ≡ g x) (twice : (x : A) → g (g x) ≡ g x) where
    -- each item has changed, or its place is left
    abbrev pub Changed : List ℕ → List A → List A → Type 0
    Changed left old now = (n : ℕ) (d : A) → n < length old → (get_or now n d ≡ g (get_or old n d)) ⊎ ((get_or now n d ≡ get_or old n d) × Contains left n)

    pub change_start : (places : List ℕ) (old : List A) → FailsOnlyAt f places old → Changed places old old
    change_start places old only = λ n d small. both (f (get_or old n d))
        (λ passes. inl (passes_stay (get_or old n d) passes))
        (λ fails. inr (refl, only_at f places old only n (fails_in old n d small ∙ ap not fails)))

    pub change_on : (places : List ℕ) (i : ℕ) (old now : List A) (p : ℕ) (d y : A) → i < length places → p ≡ get_or places i 0 → p < length now → length now ≡ length old → y ≡ g (get_or now p d) → Changed (drop i places) old now → Changed (drop (i + 1) places) old (set now p y)
    change_on places i old now p d y next place within size is changed = λ n e small. by_case n p
        (λ same.
        let put : get_or (set now p y) n e ≡ g (get_or now n e) = get_or-set_at now p n y e same within ∙ is ∙ ap g (get_or_default now p d e within ∙ ap (λ k. get_or now k e) (sym same)) in
        inl (put ∙ either (changed n e small) (λ done. ap g done ∙ twice (get_or old n e)) (λ not_yet. ap g not_yet.0)))
        (λ other.
        let stays : get_or (set now p y) n e ≡ get_or now n e = get_or-set_other now p n y e other in
        either (changed n e small) (λ done. inl (stays ∙ done)) (λ not_yet. inr (stays ∙ not_yet.0, contains_next places i n next not_yet.1 (λ k. other (k ∙ sym place)))))

    pub change_over : (places : List ℕ) (i : ℕ) (old now : List A) (p : ℕ) → i < length places → p ≡ get_or places i 0 → length now ≤ p → length now ≡ length old → Changed (drop i places) old now → Changed (drop (i + 1) places) old now
    change_over places i old now p next place out size changed = λ n e small.
        either (changed n e small) (λ done. inl done) (λ not_yet. inr (not_yet.0, contains_next places i n next not_yet.1 (λ k. omega (arith, k, place, out, size, small))))

    pub change_end : (places : List ℕ) (i : ℕ) (old now : List A) → length places ≤ i → length now ≡ length old → Changed (drop i places) old now → now ≡ map g old
    change_end places i [] [] all size changed = refl
    change_end places i [] (y ∷ ys) all size changed = absurd (omega (arith, size))
    change_end places i (x ∷ xs) now all size changed =
        ext_get_or x now (map g (x ∷ xs)) (size ∙ sym (length-map (x ∷ xs) g)) (λ n small.
        let within : n < length (x ∷ xs) = omega (arith, small, size) in
        either (changed n x within) (λ done. done ∙ sym (get_or-map g (x ∷ xs) n x x within)) (λ not_yet. absurd (contains_none places i n all not_yet.1)))

-- ---- peers

pub listed_set : {T : Type 0} (places : List ℕ) (ps : List (Peer T)) (n : ℕ) (d p : Peer T) (was : Bool) → was ≡ is_open_peer (get_or ps n d) → FailsOnlyAt is_open_peer places ps → FailsOnlyAt is_open_peer (if was then n ∷ places else places) (set ps n p)
listed_set places ps n d p was is only = fails_set is_open_peer places ps n d p was is only
