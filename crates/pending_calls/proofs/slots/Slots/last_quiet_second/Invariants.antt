use Rattle.std.proofs.Common.{take}
use Rattle.pending_calls.specs.SlotList.{NoneDue}
use Rattle.pending_calls.proofs.slots.Slots.last_quiet_second.Given as goal

abbrev pub invariant-loop-slot : goal.invariant-loop-slot
invariant-loop-slot g l = NoneDue l.until (take l.slot-index l.self.list.items)
