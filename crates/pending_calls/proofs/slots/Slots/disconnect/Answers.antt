use Rattle.std.proofs.Common.{refl, sym, ap, ◌∙◌}
use Rattle.pending_calls.specs.Slot.{cut, ended_calls}
use Rattle.pending_calls.specs.SlotList.{slot_key}
use Rattle.pending_calls.proofs.Places.{lent_here, slot-here, changed-here, slot-gap, changed-gap, sorted-written}
use Rattle.pending_calls.proofs.Dues.{written_in_time}
use Rattle.pending_calls.proofs.slots.Slots.disconnect.Goals as goal

pub invariant_of-self : goal.invariant_of-self
invariant_of-self g c =
    let s = c.args.self.now in
    let at = (rw c.deref.ensures.value at c.in-Ok.ensures) in
    let old = c.as_mut-slot.result.now in
    let is = lent_here c.args.self.now.list.items c.in-Ok.place c.as_mut-slot.result.now c.index_mut.result.now c.index_mut.ensures.value c.as_mut-slot.ensures.value in
    record { quiet = written_in_time s.quiet_until cut (λ x e. refl) s.list.items c.in-Ok.place old c.cut.new.self at.in_range is c.cut.ensures.slot s.quiet; none_found = tt; sorted = sorted-written slot_key s.list.items c.in-Ok.place c.cut.new.self old at.in_range (ap slot_key c.cut.ensures.slot) (lent_here c.args.self.now.list.items c.in-Ok.place c.as_mut-slot.result.now c.index_mut.result.now c.index_mut.ensures.value c.as_mut-slot.ensures.value) s.sorted }

pub returns-in-Ok-clause-ended : goal.returns-in-Ok-clause-ended
returns-in-Ok-clause-ended g c =
    let s = c.args.self.now in
    let at = (rw c.deref.ensures.value at c.in-Ok.ensures) in
    c.cut.ensures.ended ∙ ap ended_calls (sym (slot-here c.args.op.now c.args.station.now s.list.items c.in-Ok.place s.first_number at c.as_mut-slot.result.now (lent_here c.args.self.now.list.items c.in-Ok.place c.as_mut-slot.result.now c.index_mut.result.now c.index_mut.ensures.value c.as_mut-slot.ensures.value)))

pub returns-in-Ok-clause-list : goal.returns-in-Ok-clause-list
returns-in-Ok-clause-list g c =
    let at = (rw c.deref.ensures.value at c.in-Ok.ensures) in
    changed-here c.args.op.now c.args.station.now c.args.self.now.list.items c.in-Ok.place cut at c.as_mut-slot.result.now c.cut.new.self (lent_here c.args.self.now.list.items c.in-Ok.place c.as_mut-slot.result.now c.index_mut.result.now c.index_mut.ensures.value c.as_mut-slot.ensures.value) c.cut.ensures.slot

pub returns-in-Err-clause-ended : goal.returns-in-Err-clause-ended
returns-in-Err-clause-ended g c =
    let s = c.args.self.now in
    let gap = (rw c.deref.ensures.value at c.in-Err.ensures) in
    c.none.ensures ∙ ap ended_calls (sym (slot-gap c.args.op.now c.args.station.now s.list.items c.in-Err.field-0 s.first_number gap))

pub returns-in-Err-clause-list : goal.returns-in-Err-clause-list
returns-in-Err-clause-list g c =
    let gap = (rw c.deref.ensures.value at c.in-Err.ensures) in
    sym (changed-gap c.args.op.now c.args.station.now c.args.self.now.list.items c.in-Err.field-0 cut gap)
