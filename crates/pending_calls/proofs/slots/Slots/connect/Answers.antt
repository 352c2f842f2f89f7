use Rattle.std.proofs.Common.{◌≡◌, false, sym, ap, subst, ◌∙◌, refl, is_ok}
use Rattle.hub_rows.specs.Places.{IsGapAt}
use Rattle.pending_calls.specs.Slot.{fresh, with_connection, ended_calls, is_overdue}
use Rattle.pending_calls.specs.SlotList.{slot_key}
use Rattle.pending_calls.proofs.Places.{lent_here, slot-here, put-here, slot-gap, put-gap-here, sorted-written, sorted-inserted}
use Rattle.pending_calls.proofs.Dues.{written_in_time, all-inserted_if}
use Rattle.pending_calls.proofs.slots.Slots.connect.Goals as goal

pub invariant_of-self : goal.invariant_of-self
invariant_of-self g c =
    let s = c.args.self.now in
    let at = (rw c.deref.ensures.value at c.in-Ok.ensures) in
    let old = c.as_mut-slot.result.now in
    let is = lent_here c.args.self.now.list.items c.in-Ok.place c.as_mut-slot.result.now c.index_mut.result.now c.index_mut.ensures.value c.as_mut-slot.ensures.value in
    record { quiet = written_in_time s.quiet_until with_connection (λ x e. refl) s.list.items c.in-Ok.place old c.connect.new.self at.in_range is c.connect.ensures.slot s.quiet; none_found = tt; sorted = sorted-written slot_key s.list.items c.in-Ok.place c.connect.new.self old at.in_range (ap slot_key c.connect.ensures.slot) (lent_here c.args.self.now.list.items c.in-Ok.place c.as_mut-slot.result.now c.index_mut.result.now c.index_mut.ensures.value c.as_mut-slot.ensures.value) s.sorted }

pub returns-in-Ok-clause-ended : goal.returns-in-Ok-clause-ended
returns-in-Ok-clause-ended g c =
    let s = c.args.self.now in
    let at = (rw c.deref.ensures.value at c.in-Ok.ensures) in
    c.connect.ensures.ended ∙ ap ended_calls (sym (slot-here c.args.op.now c.args.station.now s.list.items c.in-Ok.place s.first_number at c.as_mut-slot.result.now (lent_here c.args.self.now.list.items c.in-Ok.place c.as_mut-slot.result.now c.index_mut.result.now c.index_mut.ensures.value c.as_mut-slot.ensures.value)))

pub returns-in-Ok-clause-ok : goal.returns-in-Ok-clause-ok
returns-in-Ok-clause-ok g c =
    let s = c.args.self.now in
    let at = (rw c.deref.ensures.value at c.in-Ok.ensures) in
    put-here c.args.op.now c.args.station.now s.list.items c.in-Ok.place s.first_number with_connection (λ x. refl) at c.as_mut-slot.result.now c.connect.new.self (lent_here c.args.self.now.list.items c.in-Ok.place c.as_mut-slot.result.now c.index_mut.result.now c.index_mut.ensures.value c.as_mut-slot.ensures.value) c.connect.ensures.slot

pub returns-in_ok-insert-in-Err-clause-ended : goal.returns-in_ok-insert-in-Err-clause-ended
returns-in_ok-insert-in-Err-clause-ended g c =
    let s = c.args.self.now in
    let gap = (rw c.deref.ensures.value at c.in-Err.ensures) in
    c.connect-ended.ensures.ended ∙ ap ended_calls c.new-slot.ensures
    ∙ ap ended_calls (sym (slot-gap c.args.op.now c.args.station.now s.list.items c.in-Err.place s.first_number gap))

pub returns-in_ok-insert-in-Err-clause-ok : goal.returns-in_ok-insert-in-Err-clause-ok
returns-in_ok-insert-in-Err-clause-ok g c =
    let s = c.args.self.now in
    let gap = (rw c.deref.ensures.value at c.in-Err.ensures) in
    let made = c.in_ok-slot-in-Err.ensures ∙ c.connect-ended.ensures.slot ∙ ap with_connection (c.new-slot.ensures ∙ (λ i. fresh s.first_number (c.in_ok-op-in-Err.ensures i) (c.in_ok-station-in-Err.ensures i))) in
    c.in_ok-insert-in-Err.ensures.items
    ∙ put-gap-here c.args.op.now c.args.station.now s.list.items c.in-Err.place s.first_number with_connection (λ x. refl) gap c.in_ok-slot-in-Err.slot made

pub invariant_of-self-in-Err : goal.invariant_of-self-in-Err
invariant_of-self-in-Err g c =
    let s = c.args.self.now in
    let gap = (rw c.deref.ensures.value at c.in-Err.ensures) in
    let made = c.in_ok-slot-in-Err.ensures ∙ c.connect-ended.ensures.slot ∙ ap with_connection (c.new-slot.ensures ∙ (λ i. fresh s.first_number (c.in_ok-op-in-Err.ensures i) (c.in_ok-station-in-Err.ensures i))) in
    let not_due = ap (is_overdue s.quiet_until) made in
    record { quiet = rw c.insert.ensures.items (all-inserted_if (λ x. is_overdue s.quiet_until x ≡ false) s.list.items c.in-Err.place c.in_ok-slot-in-Err.slot (is_ok c.insert.result) not_due s.quiet); none_found = tt; sorted = rw c.insert.ensures.items (sorted-inserted slot_key s.list.items c.in-Err.place c.in_ok-slot-in-Err.slot (is_ok c.insert.result) (subst (λ k. IsGapAt slot_key k s.list.items c.in-Err.place) (sym (ap slot_key made)) gap) s.sorted) }
