-- When calls are overdue, and which slots a search may leave out.
use Rattle.std.specs.Prelude.{◌≡◌, ℕ, zero, suc, ◌+◌, ◌<◌, ◌≤◌, List, [], ◌∷◌, ◌++◌, length, take, drop, Some, None, Bool, true, false, cond, count_by, Result, Ok, Err, OnOk, OnErr}
use Rattle.std.proofs.Common.{get_or, refl, sym, ◌∙◌, ap, subst, arith}
use Rattle.std.proofs.Math.ListN.{set}
use Rattle.std.specs.List.{AllByRecursion}
use Rattle.hub_rows.proofs.ListLaws.{all-weaker}
use Rattle.hub_rows.proofs.PlaceLaws.{find-none}
use Rattle.pending_calls.specs.Slot.{SlotState, flight, in_flight_or, moved_on, sent_at, is_late, is_overdue, is_answered, submitted, answered, expired}
use Rattle.pending_calls.specs.SlotList.{NoneDue, expiry_found}
use Rattle.pending_calls.proofs.Ticks.{done, expired_not_overdue}

-- ---- any rows

module _ {R : Type 0} (P : R → Type 0) where
  -- a row is written over another
  pub all-set : (xs : List R) (i : ℕ) (x : R) → P x → AllByRecursion P xs → AllByRecursion P (set xs i x)
  all-set [] i x here all = tt
  all-set (y ∷ xs) zero x here all = (here, all.1)
  all-set (y ∷ xs) (suc i) x here all = (all.0, all-set xs i x here all.1)

  -- a row is put between others, if there is memory for it
  all-inserted : (xs : List R) (i : ℕ) (x : R) → P x → AllByRecursion P xs → AllByRecursion P (take i xs ++ x ∷ drop i xs)
  all-inserted xs zero x here all = (here, all)
  all-inserted [] (suc i) x here all = (here, tt)
  all-inserted (y ∷ xs) (suc i) x here all = (all.0, all-inserted xs i x here all.1)

  pub all-inserted_if : (xs : List R) (i : ℕ) (x : R) (ok : Bool) → P x → AllByRecursion P xs → AllByRecursion P (cond ok (take i xs ++ x ∷ drop i xs) xs)
  all-inserted_if xs i x true here all = all-inserted xs i x here all
  all-inserted_if xs i x false here all = all

  -- the row at an index
  pub all-at : (xs : List R) (i : ℕ) (x : R) → i < length xs → x ≡ get_or xs i x → AllByRecursion P xs → P x
  all-at [] i x within is all = absurd (omega arith)
  all-at (y ∷ xs) zero x within is all = subst P (sym is) all.0
  all-at (y ∷ xs) (suc i) x within is all = all-at xs i x (omega arith) is all.1

  -- one row more of the front
  pub all-one_more : (xs : List R) (i : ℕ) (x : R) → i < length xs → x ≡ get_or xs i x → P x → AllByRecursion P (take i xs) → AllByRecursion P (take (suc i) xs)
  all-one_more [] i x within is here all = absurd (omega arith)
  all-one_more (y ∷ xs) zero x within is here all = (subst P is here, tt)
  all-one_more (y ∷ xs) (suc i) x within is here all = (all.0, all-one_more xs i x (omega arith) is here all.1)

-- what stands in front of a row that is written over
pub take-set : {R : Type 0} (xs : List R) (i : ℕ) (x : R) → take i (set xs i x) ≡ take i xs
take-set [] i x = refl
take-set (y ∷ xs) zero x = refl
take-set (y ∷ xs) (suc i) x = ap (λ ys. y ∷ ys) (take-set xs i x)

-- ---- slots

module _ {C : Type 0} where
  -- what isn't overdue wasn't before
  pub not_yet : (m n : ℕ) (s : SlotState C) → n ≤ m → is_overdue m s ≡ false → is_overdue n s ≡ false
  not_yet m n s before = elim s.in_flight as (λ f. is_late m f ≡ false → is_late n f ≡ false) [ None ↦ λ e. refl | Some f ↦ λ e. grind arith ]

  pub none_due_before : (m n : ℕ) (slots : List (SlotState C)) → n ≤ m → NoneDue m slots → NoneDue n slots
  none_due_before m n slots before = all-weaker (λ s. is_overdue m s ≡ false) (λ s. is_overdue n s ≡ false) (λ s e. not_yet m n s before e) slots

  -- a call that is sent at m isn't overdue 29 seconds later
  moved_in_time : (n m : ℕ) (s : SlotState C) → n ≤ m + 29 → is_overdue n (moved_on m s) ≡ false
  moved_in_time n m s within = elim s.waiting as (λ ws. is_late n (sent_at m ws) ≡ false) [ [] ↦ refl | w ∷ ws ↦ grind arith ]

  pub submitted_in_time : (n m : ℕ) (command : C) (text : List ℕ) (s : SlotState C) → n ≤ m + 29 → is_overdue n s ≡ false → is_overdue n (submitted command text m s) ≡ false
  submitted_in_time n m command text s within = elim s.in_flight as (λ f. is_late n f ≡ false → is_late n (in_flight_or f (flight s command m)) ≡ false) [ None ↦ λ e. grind arith | Some f ↦ λ e. e ]

  pub answered_in_time : (n m : ℕ) (id : List ℕ) (s : SlotState C) → n ≤ m + 29 → is_overdue n s ≡ false → is_overdue n (answered id m s) ≡ false
  answered_in_time n m id s within not_due = elim (is_answered id s) as (λ b. is_overdue n (cond b (moved_on m s) s) ≡ false) [ true ↦ moved_in_time n m s within | false ↦ not_due ]

  pub expired_in_time : (n m : ℕ) (s : SlotState C) → n ≤ m → is_overdue n (expired m s) ≡ false
  expired_in_time n m s before = not_yet m n (expired m s) before (expired_not_overdue m s)

  -- a slot is written back, changed in a way in which no call becomes overdue
  pub written_in_time : (n : ℕ) (f : SlotState C → SlotState C) → ((s : SlotState C) → is_overdue n s ≡ false → is_overdue n (f s) ≡ false) → (slots : List (SlotState C)) (i : ℕ) (old new : SlotState C) → i < length slots → old ≡ get_or slots i old → new ≡ f old → NoneDue n slots → NoneDue n (set slots i new)
  written_in_time n f in_time slots i old new within is made none =
      all-set (λ s. is_overdue n s ≡ false) slots i new (ap (is_overdue n) made ∙ in_time old (all-at (λ s. is_overdue n s ≡ false) slots i old within is none)) none

  pub submit_in_time : {A E : Type 0} (n m : ℕ) (command : C) (text : List ℕ) (r : Result A E) (slots : List (SlotState C)) (i : ℕ) (old new : SlotState C) → i < length slots → old ≡ get_or slots i old → OnOk r (new ≡ submitted command text m old) → OnErr r (new ≡ old) → n ≤ m + 29 → NoneDue n slots → NoneDue n (set slots i new)
  submit_in_time n m command text (Ok a) slots i old new within is made same soon = written_in_time n (submitted command text m) (λ s e. submitted_in_time n m command text s soon e) slots i old new within is made
  submit_in_time n m command text (Err e) slots i old new within is made same soon = written_in_time n (λ s. s) (λ s e. e) slots i old new within is same

  -- none is counted
  pub count_none : (m : ℕ) (slots : List (SlotState C)) → NoneDue m slots → count_by (is_overdue m) slots ≡ 0
  count_none m slots none = (done m slots (ap (expiry_found m) (find-none (is_overdue m) slots none))).none_due
