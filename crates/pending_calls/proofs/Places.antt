-- A slot that is changed at its place.
use Rattle.std.specs.Prelude.{◌≡◌, ℕ, zero, suc, ◌+◌, ◌<◌, List, [], ◌∷◌, ◌++◌, length, take, drop, Some, Bool, true, false, cond, find, Result, Ok, Err, OnOk, OnErr}
use Rattle.std.proofs.Common.{get_or, refl, sym, ◌∙◌, ap, subst, arith}
use Rattle.std.proofs.Math.ListN.{set}
use Rattle.std.specs.List.{AllByRecursion}
use Rattle.std.specs.List.Sorted.{IsStrictlySortedBy}
use Rattle.std.specs.Ordering.{is_eq}
use Rattle.std.specs.declared.cmp.Ordering.TheVariants.{Less}
use Rattle.std.proofs.lemmas.List.{take-append-drop, set-get_or}
use Rattle.hub_rows.proofs.Steps.{drop_here}
use Rattle.hub_rows.specs.Keyed.{by_key, key_cmp, put, pair_key}
use Rattle.hub_rows.specs.Places.{IsFoundAt, IsGapAt}
use Rattle.hub_rows.proofs.ListLaws.{all-weaker, set_here, sorted-put, by_key_total}
use Rattle.hub_rows.proofs.PlaceLaws.{find-passed, find-found, find-gap, map-found, map-gap, put-found, put-gap}
use Rattle.hub_rows.proofs.NameLaws.{is_of, pair_agrees}
use Rattle.pending_calls.specs.Slot.{SlotState, fresh, moved_on, is_answered, answered, is_overdue, expired}
use Rattle.pending_calls.specs.SlotList.{slot_key, slot_of, slot_or, changed_at, first_changed, IsFirstAt}

-- ---- any rows

all-written : {R : Type 0} (key : R → List (List ℕ)) (y : R) (xs : List R) (i : ℕ) (x z : R) → i < length xs → key x ≡ key z → z ≡ get_or xs i z → AllByRecursion (λ w. by_key key y w ≡ Less) xs → AllByRecursion (λ w. by_key key y w ≡ Less) (set xs i x)
all-written key y [] i x z within same is all = tt
all-written key y (w ∷ xs) zero x z within same is all = (ap (key_cmp (key y)) (same ∙ ap key is) ∙ all.0, all.1)
all-written key y (w ∷ xs) (suc i) x z within same is all = (all.0, all-written key y xs i x z (omega arith) same is all.1)

-- a row is written over one with its key
pub sorted-written : {R : Type 0} (key : R → List (List ℕ)) (xs : List R) (i : ℕ) (x z : R) → i < length xs → key x ≡ key z → z ≡ get_or xs i z → IsStrictlySortedBy (by_key key) xs → IsStrictlySortedBy (by_key key) (set xs i x)
unfolding IsStrictlySortedBy
sorted-written key [] i x z within same is sorted = sorted
sorted-written key (y ∷ xs) zero x z within same is sorted = (all-weaker (λ w. by_key key y w ≡ Less) (λ w. by_key key x w ≡ Less) (λ w l. ap (λ k. key_cmp k (key w)) (same ∙ ap key is) ∙ l) xs sorted.0, sorted.1)
sorted-written key (y ∷ xs) (suc i) x z within same is sorted = (all-written key y xs i x z (omega arith) same is sorted.0, sorted-written key xs i x z (omega arith) same is sorted.1)

-- a row is put into a gap, if there is memory for it
pub sorted-inserted : {R : Type 0} (key : R → List (List ℕ)) (xs : List R) (i : ℕ) (x : R) (ok : Bool) → IsGapAt key (key x) xs i → IsStrictlySortedBy (by_key key) xs → IsStrictlySortedBy (by_key key) (cond ok (take i xs ++ x ∷ drop i xs) xs)
sorted-inserted key xs i x true gap sorted = subst (IsStrictlySortedBy (by_key key)) (put-gap key x xs i gap) (sorted-put (by_key key) (by_key_total key) x xs sorted)
sorted-inserted key xs i x false gap sorted = sorted

split_here : {R : Type 0} (xs : List R) (i : ℕ) (x : R) → i < length xs → ((d : R) → get_or xs i d ≡ x) → xs ≡ take i xs ++ x ∷ drop (i + 1) xs
split_here xs i x within here = sym (take-append-drop i xs) ∙ ap (λ ys. take i xs ++ ys) (drop_here xs i x within (sym (here x)))

-- what a box at an index lends is the row there
pub lent_here : {R : Type 0} (xs : List R) (i : ℕ) (lent boxed : R) → boxed ≡ get_or xs i boxed → lent ≡ boxed → lent ≡ get_or xs i lent
lent_here xs i lent boxed here is = subst (λ x. x ≡ get_or xs i x) (sym is) here

-- ---- slots

module _ {C : Type 0} (b station : List ℕ) (slots : List (SlotState C)) (i : ℕ) where
  abbrev key : SlotState C → List (List ℕ)
  key = pair_key (λ s. s.op) (λ s. s.station)

  abbrev k : List (List ℕ)
  k = b ∷ station ∷ []

  abbrev test : SlotState C → Bool
  test = is_of (λ s. s.op) (λ s. s.station) b station

  agrees : (s : SlotState C) → test s ≡ is_eq (key_cmp (key s) k)
  agrees = pair_agrees (λ s. s.op) (λ s. s.station) b station

  -- the slot that is found is the station's
  pub slot-found : (number : ℕ) (at : IsFoundAt key k slots i) → slot_of number b station slots ≡ at.row
  slot-found number at = ap (slot_or number b station) (find-found key k test agrees slots i at)

  pub slot-gap : (number : ℕ) → IsGapAt key k slots i → slot_of number b station slots ≡ fresh number b station
  slot-gap number gap = ap (slot_or number b station) (find-gap key k test agrees slots i gap)

  -- what is written there is the change
  pub changed-found : (f : SlotState C → SlotState C) (at : IsFoundAt key k slots i) → set slots i (f at.row) ≡ changed_at b station f slots
  changed-found f at = set_here slots i (f at.row) at.in_range ∙ sym (map-found key k test agrees f slots i at)

  pub changed-gap : (f : SlotState C → SlotState C) → IsGapAt key k slots i → changed_at b station f slots ≡ slots
  changed-gap f gap = map-gap key k test agrees f slots i gap

  -- the slot that is lent at the place is the station's
  pub slot-here : (number : ℕ) (at : IsFoundAt key k slots i) (old : SlotState C) → old ≡ get_or slots i old → slot_of number b station slots ≡ old
  slot-here number at old is = slot-found number at ∙ sym (is ∙ at.here old)

  -- what is written there is the change
  pub changed-here : (f : SlotState C → SlotState C) (at : IsFoundAt key k slots i) (old new : SlotState C) → old ≡ get_or slots i old → new ≡ f old → set slots i new ≡ changed_at b station f slots
  changed-here f at old new is made = ap (set slots i) (made ∙ ap f (is ∙ at.here old)) ∙ changed-found f at

  pub put-here : (number : ℕ) (f : SlotState C → SlotState C) → ((s : SlotState C) → slot_key (f s) ≡ slot_key s) → (at : IsFoundAt key k slots i) (old new : SlotState C) → old ≡ get_or slots i old → new ≡ f old → set slots i new ≡ put (by_key slot_key) (f (slot_of number b station slots)) slots
  put-here number f stays at old new is made =
      let same : new ≡ f (slot_of number b station slots) = made ∙ ap f (sym (slot-here number at old is)) in
      let named : slot_key (f (slot_of number b station slots)) ≡ k = stays (slot_of number b station slots) ∙ ap slot_key (slot-found number at) ∙ at.has_key in
      ap (set slots i) same
      ∙ set_here slots i (f (slot_of number b station slots)) at.in_range
      ∙ sym (put-found slot_key (f (slot_of number b station slots)) slots i (subst (λ l. IsFoundAt slot_key l slots i) (sym named) at))

  -- a new slot is put into the gap
  pub put-gap-here : (number : ℕ) (f : SlotState C → SlotState C) → ((s : SlotState C) → slot_key (f s) ≡ slot_key s) → IsGapAt key k slots i → (new : SlotState C) → new ≡ f (fresh number b station) → take i slots ++ new ∷ drop i slots ≡ put (by_key slot_key) (f (slot_of number b station slots)) slots
  put-gap-here number f stays gap new made =
      let same : new ≡ f (slot_of number b station slots) = made ∙ ap f (sym (slot-gap number gap)) in
      let named : slot_key (f (slot_of number b station slots)) ≡ k = stays (slot_of number b station slots) ∙ ap slot_key (slot-gap number gap) in
      ap (λ s. take i slots ++ s ∷ drop i slots) same
      ∙ sym (put-gap slot_key (f (slot_of number b station slots)) slots i (subst (λ l. IsGapAt slot_key l slots i) (sym named) gap))

-- the first slot that passes
pub find-first : {C : Type 0} (test : SlotState C → Bool) (slots : List (SlotState C)) (i : ℕ) → (at : IsFirstAt test slots i) → find test slots ≡ Some at.slot
find-first test slots i at = ap (find test) (split_here slots i at.slot at.in_range at.here) ∙ find-passed test (take i slots) (at.slot ∷ drop (i + 1) slots) at.before ∙ ap (λ b. cond b (Some at.slot) (find test (drop (i + 1) slots))) at.passes

changed-passed : {C : Type 0} (test : SlotState C → Bool) (f : SlotState C → SlotState C) (front back : List (SlotState C)) → AllByRecursion (λ s. test s ≡ false) front → first_changed test f (front ++ back) ≡ front ++ first_changed test f back
changed-passed test f [] back none = refl
changed-passed test f (s ∷ front) back none = ap (λ b. cond b (f s ∷ (front ++ back)) (s ∷ first_changed test f (front ++ back))) none.0 ∙ ap (λ ss. s ∷ ss) (changed-passed test f front back none.1)

pub first_changed-none : {C : Type 0} (test : SlotState C → Bool) (f : SlotState C → SlotState C) (slots : List (SlotState C)) → AllByRecursion (λ s. test s ≡ false) slots → first_changed test f slots ≡ slots
first_changed-none test f [] none = refl
first_changed-none test f (s ∷ slots) none = ap (λ b. cond b (f s ∷ slots) (s ∷ first_changed test f slots)) none.0 ∙ ap (λ ss. s ∷ ss) (first_changed-none test f slots none.1)

pub changed-first : {C : Type 0} (test : SlotState C → Bool) (f : SlotState C → SlotState C) (slots : List (SlotState C)) (i : ℕ) → (at : IsFirstAt test slots i) → (old new : SlotState C) → old ≡ get_or slots i old → new ≡ f old → set slots i new ≡ first_changed test f slots
changed-first test f slots i at old new is made =
    let split : slots ≡ take i slots ++ at.slot ∷ drop (i + 1) slots = split_here slots i at.slot at.in_range at.here in
    ap (set slots i) (made ∙ ap f (is ∙ at.here old)) ∙ set_here slots i (f at.slot) at.in_range
    ∙ sym (ap (first_changed test f) split ∙ changed-passed test f (take i slots) (at.slot ∷ drop (i + 1) slots) at.before
    ∙ ap (λ b. take i slots ++ cond b (f at.slot ∷ drop (i + 1) slots) (at.slot ∷ first_changed test f (drop (i + 1) slots))) at.passes)

-- a change that is made or not
pub ok_then : {A E : Type 0} (P Q : Type 0) (r : Result A E) → (P → Q) → OnOk r P → OnOk r Q
ok_then P Q (Ok a) f p = f p
ok_then P Q (Err e) f p = p

pub err_then : {A E : Type 0} (P Q : Type 0) (r : Result A E) → (P → Q) → OnErr r P → OnErr r Q
err_then P Q (Ok a) f p = p
err_then P Q (Err e) f p = f p

-- what was read is written back
pub written_back : {R : Type 0} (xs : List R) (i : ℕ) (old new : R) → old ≡ get_or xs i old → new ≡ old → set xs i new ≡ xs
written_back xs i old new is same = ap (set xs i) (same ∙ is) ∙ set-get_or xs i old

pub same_key_either : {A E K S : Type 0} (key : S → K) (r : Result A E) (old new changed : S) → OnOk r (new ≡ changed) → OnErr r (new ≡ old) → key changed ≡ key old → key new ≡ key old
same_key_either key (Ok a) old new changed ok err same = ap key ok ∙ same
same_key_either key (Err e) old new changed ok err same = ap key err

pub answered_key : {C : Type 0} (id : List ℕ) (m : ℕ) (s : SlotState C) → slot_key (answered id m s) ≡ slot_key s
answered_key id m s = elim (is_answered id s) as (λ b. slot_key (cond b (moved_on m s) s) ≡ slot_key s) [ true ↦ refl | false ↦ refl ]

pub expired_key : {C : Type 0} (m : ℕ) (s : SlotState C) → slot_key (expired m s) ≡ slot_key s
expired_key m s = elim (is_overdue m s) as (λ b. slot_key (cond b (moved_on m s) s) ≡ slot_key s) [ true ↦ refl | false ↦ refl ]
