use Rattle.std.proofs.Common.{◌≡◌, sym, refl, subst, false, true, IsOk, IfOk}
use Rattle.pending_calls.specs.Slot.{ready, submitted, sent_now}
use Rattle.pending_calls.specs.SlotList.{slot_key}
use Rattle.pending_calls.proofs.Places.{lent_here, slot-here, changed-here, slot-gap, sorted-written, ok_then, err_then, written_back, same_key_either}
use Rattle.pending_calls.proofs.Dues.{none_due_before, submit_in_time}
use Rattle.pending_calls.proofs.slots.Slots.submit.Goals as goal

pub submit-requires : goal.submit-requires
submit-requires g c =
    let s = c.args.self.now in
    let at = (rw c.deref.ensures.value at c.in-Ok.ensures) in
    subst (λ x. IsOk (ready x)) (slot-here c.args.op.now c.args.station.now s.list.items c.in-Ok.place s.first_number at c.as_mut-slot.result.now (lent_here c.args.self.now.list.items c.in-Ok.place c.as_mut-slot.result.now c.index_mut.result.now c.index_mut.ensures.value c.as_mut-slot.ensures.value)) c.requires

pub unreachable-requires : goal.unreachable-requires
unreachable-requires g c =
    let s = c.args.self.now in
    let gap = (rw c.deref.ensures.value at c.in-Err.ensures) in
    let no : false ≡ true = subst (λ x. IsOk (ready x)) (slot-gap c.args.op.now c.args.station.now s.list.items c.in-Err.field-0 s.first_number gap) c.requires in
    cc

pub invariant_of-self : goal.invariant_of-self
invariant_of-self g c =
    let s = c.args.self.now in
    let at = (rw c.deref.ensures.value at c.in-Ok.ensures) in
    let old = c.as_mut-slot.result.now in
    let is = lent_here c.args.self.now.list.items c.in-Ok.place c.as_mut-slot.result.now c.index_mut.result.now c.index_mut.ensures.value c.as_mut-slot.ensures.value in
    let until = c.quiet_with-self.result in
    let quiet = none_due_before s.quiet_until until s.list.items c.quiet_with-self.ensures.before s.quiet in
    record { quiet = submit_in_time until c.args.moment c.args.new.command c.args.new.text c.submit.result s.list.items c.in-Ok.place old c.submit.new.self at.in_range is c.submit.ensures.ok c.submit.ensures.err c.quiet_with-self.ensures.sent quiet; none_found = tt; sorted = sorted-written slot_key s.list.items c.in-Ok.place c.submit.new.self old at.in_range (same_key_either slot_key c.submit.result old c.submit.new.self (submitted c.args.new.command c.args.new.text c.args.moment old) c.submit.ensures.ok c.submit.ensures.err refl) (lent_here c.args.self.now.list.items c.in-Ok.place c.as_mut-slot.result.now c.index_mut.result.now c.index_mut.ensures.value c.as_mut-slot.ensures.value) s.sorted }

pub returns-clause-sent : goal.returns-clause-sent
returns-clause-sent g c =
    let s = c.args.self.now in
    let at = (rw c.deref.ensures.value at c.in-Ok.ensures) in
    subst (λ x. IfOk c.submit.result (λ message. message ≡ sent_now c.args.new.text x)) (sym (slot-here c.args.op.now c.args.station.now s.list.items c.in-Ok.place s.first_number at c.as_mut-slot.result.now (lent_here c.args.self.now.list.items c.in-Ok.place c.as_mut-slot.result.now c.index_mut.result.now c.index_mut.ensures.value c.as_mut-slot.ensures.value))) c.submit.ensures.sent

pub returns-clause-ok : goal.returns-clause-ok
returns-clause-ok g c =
    let s = c.args.self.now in
    let at = (rw c.deref.ensures.value at c.in-Ok.ensures) in
    let f = submitted c.args.new.command c.args.new.text c.args.moment in
    ok_then _ _ c.submit.result (changed-here c.args.op.now c.args.station.now s.list.items c.in-Ok.place f at c.as_mut-slot.result.now c.submit.new.self (lent_here c.args.self.now.list.items c.in-Ok.place c.as_mut-slot.result.now c.index_mut.result.now c.index_mut.ensures.value c.as_mut-slot.ensures.value)) c.submit.ensures.ok

pub returns-clause-err : goal.returns-clause-err
returns-clause-err g c =
    let old = c.as_mut-slot.result.now in
    err_then _ _ c.submit.result (written_back c.args.self.now.list.items c.in-Ok.place old c.submit.new.self (lent_here c.args.self.now.list.items c.in-Ok.place c.as_mut-slot.result.now c.index_mut.result.now c.index_mut.ensures.value c.as_mut-slot.ensures.value)) c.submit.ensures.err

pub returns-clause-number : goal.returns-clause-number
returns-clause-number g c = refl
