use Rattle.std.proofs.Common.{◌≡◌, ◌-◌, drop, sum_by}
use Rattle.pending_calls.specs.Slot.{waiting_bytes}
use Rattle.pending_calls.specs.OwnSlots.{own_slots, most_operator_bytes}
use Rattle.pending_calls.proofs.slots.Slots.are_full.Given as goal

abbrev pub invariant-loop-slot : goal.invariant-loop-slot
invariant-loop-slot g l = l.room - sum_by waiting_bytes (drop l.slot-index (own_slots l.op l.self.list.items)) ≡ most_operator_bytes - sum_by waiting_bytes (own_slots l.op l.self.list.items)
