-- A tick as a whole, and as moves one after the other.
use Rattle.std.specs.Prelude.{◌≡◌, ◌≢◌, ℕ, ◌+◌, List, [], ◌∷◌, Some, None, Bool, true, false, cond, count_by, find}
use Rattle.std.proofs.Common.{refl, sym, ◌∙◌, ap, arith}
use Rattle.std.specs.List.{cons_option}
use Rattle.std.proofs.lemmas.List.Sums.{sum_by-cons}
use Rattle.std.specs.List.Sorted.{IsStrictlySortedBy}
use Rattle.hub_rows.specs.Keyed.{by_key}
use Rattle.pending_calls.specs.declared.call.Moved.{Moved}
use Rattle.pending_calls.specs.Slot.{SlotState, Queued, moved_on, move, sent_at, is_late, is_overdue, expired}
use Rattle.pending_calls.specs.SlotList.{slot_key, first_changed, expiry_found, next_expiry}
use Rattle.pending_calls.specs.Tick.{tick, tick_moves}
use Rattle.pending_calls.proofs.ListLaws.{sorted-map}
use Rattle.pending_calls.proofs.Places.{expired_key}

module _ {C : Type 0} where
  -- the operator of a slot stays
  pub expired_op : (m : ℕ) (s : SlotState C) → (expired m s).op ≡ s.op
  expired_op m s = elim (is_overdue m s) as (λ b. (cond b (moved_on m s) s).op ≡ s.op) [ true ↦ refl | false ↦ refl ]

  -- a tick keeps the order of the slots
  pub sorted-tick : (m : ℕ) (slots : List (SlotState C)) → IsStrictlySortedBy (by_key slot_key) slots → IsStrictlySortedBy (by_key slot_key) (tick m slots)
  sorted-tick m slots sorted = sorted-map slot_key (expired m) (expired_key m) slots sorted

  -- ---- one move after the other

  not_late : (m : ℕ) (qs : List (Queued C)) → is_late m (sent_at m qs) ≡ false
  not_late m [] = refl
  not_late m (q ∷ qs) = grind arith

  -- a slot that has moved on isn't overdue
  moved_not_overdue : (m : ℕ) (s : SlotState C) (b : Bool) → is_overdue m s ≡ b → is_overdue m (cond b (moved_on m s) s) ≡ false
  moved_not_overdue m s true is = not_late m s.waiting
  moved_not_overdue m s false is = is

  pub expired_not_overdue : (m : ℕ) (s : SlotState C) → is_overdue m (expired m s) ≡ false
  expired_not_overdue m s = moved_not_overdue m s (is_overdue m s) refl

  -- an overdue slot has a move
  moves : (m : ℕ) (s : SlotState C) → is_overdue m s ≡ true → move s ≢ None
  moves m s late none = elim s.in_flight as (λ f. is_late m f ≡ true → move (record s { in_flight = f }) ≡ None → ⊥) [ None ↦ λ e n. absurd (cc) | Some f ↦ λ e n. absurd (cc) ] late none

  -- no slot is overdue
  pub record IsDone (m : ℕ) (slots : List (SlotState C)) : Type 0 where
    pub slots_stay : tick m slots ≡ slots
    pub same : first_changed (is_overdue m) (expired m) slots ≡ slots
    pub no_move : tick_moves m slots ≡ []
    pub none_due : count_by (is_overdue m) slots ≡ 0

  -- the first overdue slot has moved
  pub record IsStep (m : ℕ) (moved : Moved C) (old new : List (SlotState C)) : Type 0 where
    pub same_slots : tick m new ≡ tick m old
    pub first_move : tick_moves m old ≡ moved ∷ tick_moves m new
    pub one_less : count_by (is_overdue m) new + 1 ≡ count_by (is_overdue m) old

  counted : (m : ℕ) (s : SlotState C) (slots : List (SlotState C)) (b : Bool) → is_overdue m s ≡ b → count_by (is_overdue m) (s ∷ slots) ≡ cond b 1 0 + count_by (is_overdue m) slots
  counted m s slots b is = sum_by-cons (λ x. cond (is_overdue m x) 1 0) s slots ∙ ap (λ t. cond t 1 0 + count_by (is_overdue m) slots) is

  done_cons : (m : ℕ) (s : SlotState C) (slots : List (SlotState C)) (b : Bool) → is_overdue m s ≡ b → expiry_found m (cond b (Some s) (find (is_overdue m) slots)) ≡ None → (next_expiry m slots ≡ None → IsDone m slots) → IsDone m (s ∷ slots)
  done_cons m s slots true is none rest = absurd (moves m s is (sym (ap (λ b. cond b (move s) None) is) ∙ none))
  done_cons m s slots false is none rest =
      let later = rest none in
      record {
        slots_stay = λ i. cond (is i) (moved_on m s) s ∷ later.slots_stay i;
        same = ap (λ b. cond b (expired m s ∷ slots) (s ∷ first_changed (is_overdue m) (expired m) slots)) is ∙ ap (λ ss. s ∷ ss) later.same;
        no_move = ap (λ b. cons_option (cond b (move s) None) (tick_moves m slots)) is ∙ later.no_move;
        none_due = let now = counted m s slots false is in let rest = later.none_due in omega arith;
      }

  pub done : (m : ℕ) (slots : List (SlotState C)) → next_expiry m slots ≡ None → IsDone m slots
  done m [] none = record { slots_stay = refl; same = refl; no_move = refl; none_due = refl }
  done m (s ∷ slots) none = done_cons m s slots (is_overdue m s) refl none (done m slots)

  step_cons : (m : ℕ) (moved : Moved C) (s : SlotState C) (slots : List (SlotState C)) (b : Bool) → is_overdue m s ≡ b → expiry_found m (cond b (Some s) (find (is_overdue m) slots)) ≡ Some moved → (next_expiry m slots ≡ Some moved → IsStep m moved slots (first_changed (is_overdue m) (expired m) slots)) → IsStep m moved (s ∷ slots) (cond b (expired m s ∷ slots) (s ∷ first_changed (is_overdue m) (expired m) slots))
  step_cons m moved s slots true is some rest =
      let no_longer : is_overdue m (expired m s) ≡ false = expired_not_overdue m s in
      record {
        same_slots = ap (λ b. cond b (moved_on m (expired m s)) (expired m s) ∷ tick m slots) no_longer;
        first_move = ap (λ e. cons_option e (tick_moves m slots)) some ∙ ap (λ ms. moved ∷ ms) (sym (ap (λ b. cons_option (cond b (move (expired m s)) None) (tick_moves m slots)) no_longer));
        one_less = let before = counted m s slots true is in let after = counted m (expired m s) slots false no_longer in omega arith;
      }
  step_cons m moved s slots false is some rest =
      let later = rest some in
      let new = first_changed (is_overdue m) (expired m) slots in
      record {
        same_slots = ap (λ ss. expired m s ∷ ss) later.same_slots;
        first_move = ap (λ b. cons_option (cond b (move s) None) (tick_moves m slots)) is ∙ later.first_move ∙ ap (λ ms. moved ∷ ms) (sym (ap (λ b. cons_option (cond b (move s) None) (tick_moves m new)) is));
        one_less = let before = counted m s slots false is in let after = counted m s new false is in let less = later.one_less in omega arith;
      }

  pub step : (m : ℕ) (moved : Moved C) (slots : List (SlotState C)) → next_expiry m slots ≡ Some moved → IsStep m moved slots (first_changed (is_overdue m) (expired m) slots)
  step m moved [] some = absurd (cc)
  step m moved (s ∷ slots) some = step_cons m moved s slots (is_overdue m s) refl some (step m moved slots)
