use Rattle.std.proofs.Common.{◌≡◌, ℕ, ◌+◌, ◌<◌, List, length, get_or, drop, Bool, cond, count_by, sym, ap, ◌∙◌, arith}
use Rattle.std.proofs.lemmas.List.Sums.{sum_by-drop_more}
use Rattle.pending_calls.specs.OwnSlots.{own_slots}
use Rattle.pending_calls.specs.Slots.{all_slots}
use Rattle.hub.specs.InFlight.{has_calls}
use Rattle.hub.proofs.hub.Hub.count_in_flight.Goals as goal
use Rattle.hub.proofs.hub.Hub.count_in_flight.Goals.{then-has_calls, else-has_calls}

-- 1 where the test is passed, else 0
abbrev one_if : Bool → ℕ
one_if b = cond b 1 0

-- one more row is counted
counted : {X : Type 0} (p : X → Bool) (xs : List X) (i : ℕ) (x : X) (count new : ℕ) → i < length xs → x ≡ get_or xs i x → new ≡ count + one_if (p x) → count + count_by p (drop i xs) ≡ count_by p xs → new + count_by p (drop (i + 1) xs) ≡ count_by p xs
counted p xs i x count new within is added before =
    let here : count_by p (drop i xs) ≡ one_if (p (get_or xs i x)) + count_by p (drop (i + 1) xs) = sum_by-drop_more (λ y. one_if (p y)) xs i x within in
    let same : one_if (p (get_or xs i x)) ≡ one_if (p x) = ap (λ y. one_if (p y)) (sym is) in
    omega arith

pub loop-slot-preserved : goal.loop-slot-preserved
loop-slot-preserved g c =
    let own = own_slots c.args.op.now (all_slots c.args.self.now.slots) in
    let within = rw c.of_operator-slot-items.ensures at c.loop-slot-test.true in
    let is = rw c.of_operator-slot-items.ensures at c.slot-item.is in
    let seen : one_if c.has_calls.result ≡ one_if (has_calls c.slot-item.result) = ap one_if (c.has_calls.ensures ∙ ap (λ s. has_calls s) c.as_ref.ensures) in
    let added : c.if-has_calls.count ≡ c.loop-slot.count + one_if c.has_calls.result = elim c.if-has_calls.branch [
      | then-has_calls w ↦ w.count-is ∙ ap (λ b. c.loop-slot.count + one_if b) (sym w.if-has_calls.true)
      | else-has_calls w ↦ let none : one_if c.has_calls.result ≡ 0 = ap one_if w.if-has_calls.false in let is = w.count-is in omega arith
    ] in
    counted has_calls own c.loop-slot.slot-index c.slot-item.result c.loop-slot.count c.if-has_calls.count within is (omega (arith, added, seen)) c.loop-slot.invariant
