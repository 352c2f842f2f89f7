use Rattle.std.proofs.Common.{◌≡◌, ◌≤◌, take, false, arith, sym, ap, subst, ◌∙◌}
use Rattle.std.proofs.Math.ListN.{set}
use Rattle.hub_rows.proofs.PlaceLaws.{find-none}
use Rattle.pending_calls.specs.Slot.{is_overdue, expired, expiry}
use Rattle.pending_calls.specs.SlotList.{NoneDue, slot_key, expiry_found}
use Rattle.pending_calls.proofs.Dues.{all-set, take-set, expired_in_time, none_due_before}
use Rattle.pending_calls.proofs.Places.{lent_here, find-first, changed-first, first_changed-none, sorted-written, expired_key}
use Rattle.pending_calls.proofs.slots.Slots.expire_next.Goals as goal

pub returns-then-seconds-self-clause-moved : goal.returns-then-seconds-self-clause-moved
returns-then-seconds-self-clause-moved g c =
    let s = c.args.self.now in
    let m = c.args.moment in
    let none = none_due_before s.quiet_until m s.list.items (subst (λ n. n ≤ s.quiet_until) c.seconds.ensures.value c.if-seconds-self.true) s.quiet in
    sym (ap (expiry_found m) (find-none (is_overdue m) s.list.items none))

pub returns-then-seconds-self-clause-list : goal.returns-then-seconds-self-clause-list
returns-then-seconds-self-clause-list g c =
    let s = c.args.self.now in
    let m = c.args.moment in
    let none = none_due_before s.quiet_until m s.list.items (subst (λ n. n ≤ s.quiet_until) c.seconds.ensures.value c.if-seconds-self.true) s.quiet in
    sym (first_changed-none (is_overdue m) (expired m) s.list.items none)

pub invariant_of-self : goal.invariant_of-self
invariant_of-self g c =
    let s = c.args.self.now in
    let m = c.args.moment in
    let slots = s.list.items in
    let place = c.in-Some.place in
    let at = c.in-Some.ensures in
    let old = c.as_mut-slot.result.now in
    let new = c.expire.new.self in
    let is = lent_here slots place old c.index_mut.result.now c.index_mut.ensures.value c.as_mut-slot.ensures.value in
    let first = c.seconds.ensures.value in
    let passed = c.if-seconds-self.false in
    let before : s.quiet_until ≤ m = omega arith in
    record { sorted = sorted-written slot_key slots place new old at.in_range (ap slot_key c.expire.ensures.slot ∙ expired_key m old) is s.sorted; quiet = all-set (λ x. is_overdue s.quiet_until x ≡ false) slots place new (ap (is_overdue s.quiet_until) c.expire.ensures.slot ∙ expired_in_time s.quiet_until m old before) s.quiet; none_found = subst (λ n. NoneDue n (take place (set slots place new))) (sym c.seconds-self.ensures.value) (subst (NoneDue m) (sym (take-set slots place new)) at.before) }

pub returns-in-Some-clause-moved : goal.returns-in-Some-clause-moved
returns-in-Some-clause-moved g c =
    let m = c.args.moment in
    let slots = c.args.self.now.list.items in
    let at = c.in-Some.ensures in
    let old = c.as_mut-slot.result.now in
    let is = lent_here slots c.in-Some.place old c.index_mut.result.now c.index_mut.ensures.value c.as_mut-slot.ensures.value in
    c.expire.ensures.moved ∙ ap (expiry m) (is ∙ at.here old) ∙ sym (ap (expiry_found m) (find-first (is_overdue m) slots c.in-Some.place at))

pub returns-in-Some-clause-list : goal.returns-in-Some-clause-list
returns-in-Some-clause-list g c =
    let m = c.args.moment in
    let slots = c.args.self.now.list.items in
    let old = c.as_mut-slot.result.now in
    let is = lent_here slots c.in-Some.place old c.index_mut.result.now c.index_mut.ensures.value c.as_mut-slot.ensures.value in
    changed-first (is_overdue m) (expired m) slots c.in-Some.place c.in-Some.ensures old c.expire.new.self is c.expire.ensures.slot

pub returns-in-None-clause-moved : goal.returns-in-None-clause-moved
returns-in-None-clause-moved g c = sym (ap (expiry_found c.args.moment) (find-none (is_overdue c.args.moment) c.args.self.now.list.items c.in-None.ensures))

pub returns-in-None-clause-list : goal.returns-in-None-clause-list
returns-in-None-clause-list g c = sym (first_changed-none (is_overdue c.args.moment) (expired c.args.moment) c.args.self.now.list.items c.in-None.ensures)
