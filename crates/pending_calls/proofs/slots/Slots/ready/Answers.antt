use Rattle.std.proofs.Common.{ap, ◌∙◌, subst, refl, arith, IsOk, IfOk}
use Rattle.pending_calls.specs.OwnSlots.{own_slots, ready_among}
use Rattle.pending_calls.specs.Slot.{ready, IsSlot}
use Rattle.pending_calls.specs.SlotList.{slot_or}
use Rattle.pending_calls.proofs.slots.Slots.ready.Goals as goal

pub returns-in-Some : goal.returns-in-Some
returns-in-Some g c =
    let s = c.args.self.now in
    let here = ap (slot_or s.first_number c.args.op.now c.args.station.now) (rw c.deref.ensures.value at c.in-Some.ensures) in
    let slot = c.as_ref.ensures ∙ here in
    record {
      number = c.ready_among.ensures.number ∙ ap (ready_among (own_slots c.args.op.now s.list.items)) slot;
      ready = subst (λ x. IfOk c.ready_among.result (λ n. IsOk (ready x))) slot c.ready_among.ensures.ready;
      slot = subst IsSlot slot c.ready_among.ensures.slot;
    }

pub returns-in-None : goal.returns-in-None
returns-in-None g c =
    let s = c.args.self.now in
    let none = ap (slot_or s.first_number c.args.op.now c.args.station.now) (rw c.deref.ensures.value at c.in-None.ensures) in
    record {
      number = ap (ready_among (own_slots c.args.op.now s.list.items)) none;
      ready = tt;
      slot = subst IsSlot none (record { few = omega arith; unconnected = λ e. refl; in_order = λ e. refl });
    }
