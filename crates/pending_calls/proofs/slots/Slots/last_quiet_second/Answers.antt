use Rattle.std.proofs.Common.{◌≡◌, suc, ◌+◌, ◌≤◌, ap, sym, subst, ◌∙◌, false, take, arith}
use Rattle.pending_calls.specs.Slot.{is_overdue}
use Rattle.pending_calls.specs.SlotList.{NoneDue}
use Rattle.pending_calls.proofs.Dues.{not_yet, none_due_before, all-one_more}
use Rattle.pending_calls.proofs.slots.Slots.last_quiet_second.Goals as goal

pub loop-slot-preserved : goal.loop-slot-preserved
loop-slot-preserved g c =
    let items = c.args.self.now.list.items in
    let i = c.loop-slot.slot-index in
    let x = c.slot-item.result in
    let q = c.quiet_until.result in
    let until = c.min-until.result in
    let least = c.min-until.ensures in
    let seen : until ≤ c.loop-slot.until = omega arith in
    let this : until ≤ q = omega arith in
    let within = rw c.deref-slot-items.ensures.value at c.loop-slot-test.true in
    let is = rw c.deref-slot-items.ensures.value at c.slot-item.is in
    let here = not_yet q until x this (ap (is_overdue q) (sym c.as_ref.ensures) ∙ c.quiet_until.ensures) in
    let next : suc i ≡ i + 1 = omega arith in
    subst (λ n. NoneDue until (take n items)) next (all-one_more (λ s. is_overdue until s ≡ false) items i x within is here (none_due_before c.loop-slot.until until (take i items) seen c.loop-slot.invariant))
