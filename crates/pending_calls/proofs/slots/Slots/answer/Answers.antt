use Rattle.std.proofs.Common.{refl, sym, ap, ◌∙◌}
use Rattle.pending_calls.specs.Slot.{answered, answer_move}
use Rattle.pending_calls.specs.SlotList.{slot_key}
use Rattle.pending_calls.proofs.Places.{lent_here, slot-here, changed-here, slot-gap, changed-gap, sorted-written, answered_key}
use Rattle.pending_calls.proofs.Dues.{none_due_before, written_in_time, answered_in_time}
use Rattle.pending_calls.proofs.slots.Slots.answer.Goals as goal

pub invariant_of-self : goal.invariant_of-self
invariant_of-self g c =
    let s = c.args.self.now in
    let at = (rw c.deref.ensures.value at c.in-Ok.ensures) in
    let old = c.as_mut-slot.result.now in
    let is = lent_here c.args.self.now.list.items c.in-Ok.place c.as_mut-slot.result.now c.index_mut.result.now c.index_mut.ensures.value c.as_mut-slot.ensures.value in
    let until = c.quiet_with-self.result in
    let m = c.args.moment in
    let quiet = none_due_before s.quiet_until until s.list.items c.quiet_with-self.ensures.before s.quiet in
    record { quiet = written_in_time until (answered c.args.id.now m) (λ x e. answered_in_time until m c.args.id.now x c.quiet_with-self.ensures.sent e) s.list.items c.in-Ok.place old c.answer.new.self at.in_range is c.answer.ensures.slot quiet; none_found = tt; sorted = sorted-written slot_key s.list.items c.in-Ok.place c.answer.new.self old at.in_range (ap slot_key c.answer.ensures.slot ∙ answered_key c.args.id.now c.args.moment old) (lent_here c.args.self.now.list.items c.in-Ok.place c.as_mut-slot.result.now c.index_mut.result.now c.index_mut.ensures.value c.as_mut-slot.ensures.value) s.sorted }

pub returns-in-Ok-clause-moved : goal.returns-in-Ok-clause-moved
returns-in-Ok-clause-moved g c =
    let s = c.args.self.now in
    let at = (rw c.deref.ensures.value at c.in-Ok.ensures) in
    c.answer.ensures.moved ∙ ap (answer_move c.args.id.now) (sym (slot-here c.args.op.now c.args.station.now s.list.items c.in-Ok.place s.first_number at c.as_mut-slot.result.now (lent_here c.args.self.now.list.items c.in-Ok.place c.as_mut-slot.result.now c.index_mut.result.now c.index_mut.ensures.value c.as_mut-slot.ensures.value)))

pub returns-in-Ok-clause-list : goal.returns-in-Ok-clause-list
returns-in-Ok-clause-list g c =
    let at = (rw c.deref.ensures.value at c.in-Ok.ensures) in
    changed-here c.args.op.now c.args.station.now c.args.self.now.list.items c.in-Ok.place (answered c.args.id.now c.args.moment) at c.as_mut-slot.result.now c.answer.new.self (lent_here c.args.self.now.list.items c.in-Ok.place c.as_mut-slot.result.now c.index_mut.result.now c.index_mut.ensures.value c.as_mut-slot.ensures.value) c.answer.ensures.slot

pub returns-in-Err-clause-moved : goal.returns-in-Err-clause-moved
returns-in-Err-clause-moved g c =
    let s = c.args.self.now in
    let gap = (rw c.deref.ensures.value at c.in-Err.ensures) in
    ap (answer_move c.args.id.now) (sym (slot-gap c.args.op.now c.args.station.now s.list.items c.in-Err.field-0 s.first_number gap))

pub returns-in-Err-clause-list : goal.returns-in-Err-clause-list
returns-in-Err-clause-list g c =
    let gap = (rw c.deref.ensures.value at c.in-Err.ensures) in
    sym (changed-gap c.args.op.now c.args.station.now c.args.self.now.list.items c.in-Err.field-0 (answered c.args.id.now c.args.moment) gap)

pub returns-in-Ok-clause-number : goal.returns-in-Ok-clause-number
returns-in-Ok-clause-number g c = refl
