use Rattle.std.proofs.Common.{not, filter, sym, subst}
use Rattle.store_mem.specs.Groups.{all_of}
use Rattle.store_mem.specs.Received.{is_of, AreReceived}
use Rattle.store_mem.proofs.ReceivedLaws.{received-without_tag}
use Rattle.store_mem.proofs.grants.Grants.drop_of_tag.Goals as goal

pub invariant_of-self : goal.invariant_of-self
invariant_of-self c =
    let s = c.args.self.now in
    let b = c.args.op.now in
    let key = c.args.key.now in
    record {
      by_owner = c.drop_given.ensures.groups;
      by_receiver = c.drop_from_each.ensures.groups;
      same = subst (λ rs. AreReceived rs (all_of c.drop_given.new.groups.items)) (sym c.drop_from_each.ensures.rows)
          (subst (AreReceived (filter (λ r. not (is_of key b r)) (all_of s.received.items))) (sym c.drop_given.ensures.rows) (received-without_tag b key (all_of s.received.items) (all_of s.given.items) s.same));
    }
