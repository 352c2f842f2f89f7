use Rattle.std.proofs.Common.{◌≡◌, ◌+◌, ◌*◌, ◌≤◌, ◌++◌, count_by, vec_len, vec_capacity}
use Rattle.pending_calls.specs.Slot.{is_overdue}
use Rattle.pending_calls.specs.Slots.{all_slots, first_number}
use Rattle.pending_calls.specs.Tick.{tick}
use Rattle.hub.specs.Effects.{tick_outputs}
use Rattle.hub.proofs.tick.expire_all.Given as goal

abbrev pub invariant-loop-moved : goal.invariant-loop-moved
invariant-loop-moved l = record {
  slots : tick l.moment (all_slots l.slots) ≡ tick l.moment (all_slots l.fn.slots);
  outs : l.outs.items ++ tick_outputs l.moment (all_slots l.slots) ≡ l.fn.outs.items ++ tick_outputs l.moment (all_slots l.fn.slots);
  room : vec_len l.outs + count_by (is_overdue l.moment) (all_slots l.slots) * 2 ≤ vec_capacity l.outs;
  number : first_number l.slots ≡ first_number l.fn.slots;
}

abbrev pub decreases-loop-moved : goal.decreases-loop-moved
decreases-loop-moved l = count_by (is_overdue l.moment) (all_slots l.slots)
