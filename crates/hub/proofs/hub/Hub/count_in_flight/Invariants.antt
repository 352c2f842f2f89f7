use Rattle.std.proofs.Common.{◌≡◌, ◌+◌, drop, count_by}
use Rattle.pending_calls.specs.OwnSlots.{own_slots}
use Rattle.pending_calls.specs.Slots.{all_slots}
use Rattle.hub.specs.InFlight.{has_calls}
use Rattle.hub.proofs.hub.Hub.count_in_flight.Given as goal

abbrev pub invariant-loop-slot : goal.invariant-loop-slot
invariant-loop-slot g l = l.count + count_by has_calls (drop l.slot-index (own_slots l.op (all_slots l.self.slots))) ≡ count_by has_calls (own_slots l.op (all_slots l.self.slots))
