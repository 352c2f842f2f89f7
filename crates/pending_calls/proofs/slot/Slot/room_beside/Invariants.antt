use Rattle.std.proofs.Common.{◌≡◌, ◌-◌, length, drop, sum_by}
use Rattle.pending_calls.proofs.slot.Slot.room_beside.Given as goal

abbrev pub invariant-loop-waiting : goal.invariant-loop-waiting
invariant-loop-waiting g l = l.left - sum_by (λ q. length q.text) (drop l.waiting-index l.self.waiting) ≡ l.room - sum_by (λ q. length q.text) l.self.waiting
