use Rattle.std.proofs.Common.{◌≡◌, ℕ, ◌+◌, ◌<◌, ◌≤◌, List, length, get_or, drop, Bool, cond, count_by, sym, ap, subst, ◌∙◌, arith}
use Rattle.std.proofs.lemmas.List.Sums.{sum_by-drop_more}
use Rattle.pending_calls.specs.Slot.{is_overdue}
use Rattle.pending_calls.proofs.Dues.{count_none, none_due_before}
use Rattle.pending_calls.proofs.slots.Slots.due.Goals as goal
use Rattle.pending_calls.proofs.slots.Slots.due.Goals.{then-is_overdue, else-is_overdue}

-- 1 where the test is passed, else 0
abbrev one_if : Bool → ℕ
one_if b = cond b 1 0

-- one more row is counted
counted : {X : Type 0} (p : X → Bool) (xs : List X) (i : ℕ) (x : X) (due new : ℕ) → i < length xs → x ≡ get_or xs i x → new ≡ due + one_if (p x) → due + count_by p (drop i xs) ≡ count_by p xs → new + count_by p (drop (i + 1) xs) ≡ count_by p xs
counted p xs i x due new within is added before =
    let here : count_by p (drop i xs) ≡ one_if (p (get_or xs i x)) + count_by p (drop (i + 1) xs) = sum_by-drop_more (λ y. one_if (p y)) xs i x within in
    let same : one_if (p (get_or xs i x)) ≡ one_if (p x) = ap (λ y. one_if (p y)) (sym is) in
    omega arith

pub returns-then-seconds-self : goal.returns-then-seconds-self
returns-then-seconds-self g c =
    let s = c.args.self.now in
    sym (count_none c.args.moment s.list.items (none_due_before s.quiet_until c.args.moment s.list.items (subst (λ n. n ≤ s.quiet_until) c.seconds.ensures.value c.if-seconds-self.true) s.quiet))

pub loop-slot-preserved : goal.loop-slot-preserved
loop-slot-preserved g c =
    let within = rw c.deref-slot-items.ensures.value at c.loop-slot-test.true in
    let is = rw c.deref-slot-items.ensures.value at c.slot-item.is in
    let seen : one_if c.is_overdue.result ≡ one_if (is_overdue c.args.moment c.slot-item.result) = ap one_if (c.is_overdue.ensures ∙ ap (is_overdue c.args.moment) c.as_ref.ensures) in
    let added : c.if-is_overdue.due ≡ c.loop-slot.due + one_if c.is_overdue.result = elim c.if-is_overdue.branch [
      | then-is_overdue w ↦ w.due-is ∙ ap (λ b. c.loop-slot.due + one_if b) (sym w.if-is_overdue.true)
      | else-is_overdue w ↦ let none : one_if c.is_overdue.result ≡ 0 = ap one_if w.if-is_overdue.false in let is = w.due-is in omega arith
    ] in
    counted (is_overdue c.args.moment) c.args.self.now.list.items c.loop-slot.slot-index c.slot-item.result c.loop-slot.due c.if-is_overdue.due within is (omega (arith, added, seen)) c.loop-slot.invariant
