use Rattle.std.proofs.Common.{refl}
use Rattle.store_mem.specs.Received.{receiver_key, receiver_rest, is_of}
use Rattle.store_mem.proofs.DroppedLaws.{AreDropped}
use Rattle.store_mem.proofs.received.drop_from_each.Given as goal

abbrev pub invariant-loop-group : goal.invariant-loop-group
invariant-loop-group l = AreDropped receiver_key (λ r. r.grant.to) receiver_rest (λ r. refl) (is_of l.key l.op) l.fn.groups.items l.group-items l.group-index
