use Rattle.std.proofs.Common.{◌≡◌, ◌-◌, sum_by, ap, ◌∙◌, arith}
use Rattle.pending_calls.specs.OwnSlots.{most_operator_bytes, own_slots}
use Rattle.pending_calls.specs.Slot.{waiting_bytes}
use Rattle.pending_calls.proofs.Rooms.{all_taken, one_taken}
use Rattle.pending_calls.proofs.slots.Slots.are_full.Goals as goal

pub loop-slot-preserved : goal.loop-slot-preserved
loop-slot-preserved g c =
    let own = own_slots c.args.op.now c.args.self.now.list.items in
    let within = rw c.of_operator-slot-items.ensures at c.loop-slot-test.true in
    let is = rw c.of_operator-slot-items.ensures at c.slot-item.is in
    one_taken waiting_bytes own c.loop-slot.slot-index c.slot-item.result c.loop-slot.room c.room_beside-room.result most_operator_bytes within is (c.room_beside-room.ensures ∙ ap (λ s. c.loop-slot.room - waiting_bytes s) c.as_ref.ensures) c.loop-slot.invariant

pub returns : goal.returns
returns g c =
    let own = own_slots c.args.op.now c.args.self.now.list.items in
    let end = rw c.of_operator-slot-items.ensures at c.loop-slot-test.false in
    let left : c.loop-slot.room ≡ most_operator_bytes - sum_by waiting_bytes own = all_taken waiting_bytes own c.loop-slot.slot-index c.loop-slot.room most_operator_bytes end c.loop-slot.invariant in
    grind arith
