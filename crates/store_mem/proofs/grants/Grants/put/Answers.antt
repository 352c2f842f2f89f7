use Rattle.std.proofs.Common.{ap, sym, subst, ◌∙◌}
use Rattle.hub_rows.specs.Keyed.{by_key, put}
use Rattle.hub_rows.specs.Rows.{grant_key}
use Rattle.store_mem.specs.declared.received.Received.{Received}
use Rattle.store_mem.specs.Groups.{all_of}
use Rattle.store_mem.specs.Received.{receiver_key, AreReceived}
use Rattle.store_mem.proofs.ReceivedLaws.{received-put}
use Rattle.store_mem.proofs.grants.Grants.put.Goals as goal

pub invariant_of-self-2 : goal.invariant_of-self-2
invariant_of-self-2 c =
    let s = c.args.self.now in
    let row : Received = record { grant = c.in_ok-copy.field-0 } in
    let received = c.put_in_room.ensures.rows ∙ ap (put (by_key receiver_key) row) c.in_ok-make_room-2.ensures.rows in
    let given = c.put_in_room-2.ensures.rows ∙ (λ i. put (by_key grant_key) (sym c.in_ok-copy.ensures i) (c.in_ok-make_room.ensures.rows i)) in
    record {
      by_owner = c.put_in_room-2.ensures.groups;
      by_receiver = c.put_in_room.ensures.groups;
      same = subst (λ rs. AreReceived rs (all_of c.put_in_room-2.new.groups.items)) (sym received)
          (subst (AreReceived (put (by_key receiver_key) row (all_of s.received.items))) (sym given) (received-put (all_of s.received.items) (all_of s.given.items) row s.same));
    }
