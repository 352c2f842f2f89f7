use Rattle.std.proofs.Common.{◌≡◌, sym, subst, ◌∙◌}
use Rattle.hub_rows.specs.Keyed.{without}
use Rattle.hub_rows.specs.Grants.{is_grant}
use Rattle.hub_rows.proofs.ListLaws.{two_parts}
use Rattle.store_mem.specs.Groups.{all_of}
use Rattle.store_mem.specs.Received.{is_of, AreReceived}
use Rattle.store_mem.proofs.ReceivedLaws.{received-without}
use Rattle.store_mem.proofs.grants.Grants.drop_one.Goals as goal

pub returns : goal.returns
returns c =
    let key = c.args.key.now in
    let to = c.args.to.now in
    c.drop_row-2.ensures.rows ∙ (λ i. without (λ r. r.op) c.args.op.now (λ r. sym (two_parts r.key r.to key to) i) (all_of c.args.self.now.given.items))

pub invariant_of-self : goal.invariant_of-self
invariant_of-self c =
    let s = c.args.self.now in
    let b = c.args.op.now in
    let key = c.args.key.now in
    let to = c.args.to.now in
    let received : all_of c.drop_row.new.groups.items ≡ without (λ r. r.grant.to) to (is_of key b) (all_of s.received.items) =
    c.drop_row.ensures.rows ∙ (λ i. without (λ r. r.grant.to) to (λ r. sym (two_parts r.grant.key r.grant.op key b) i) (all_of s.received.items)) in
    let given : all_of c.drop_row-2.new.groups.items ≡ without (λ r. r.op) b (is_grant key to) (all_of s.given.items) =
    c.drop_row-2.ensures.rows ∙ (λ i. without (λ r. r.op) b (λ r. sym (two_parts r.key r.to key to) i) (all_of s.given.items)) in
    record {
      by_owner = c.drop_row-2.ensures.groups;
      by_receiver = c.drop_row.ensures.groups;
      same = subst (λ rs. AreReceived rs (all_of c.drop_row-2.new.groups.items)) (sym received)
          (subst (AreReceived (without (λ r. r.grant.to) to (is_of key b) (all_of s.received.items))) (sym given) (received-without b key to (all_of s.received.items) (all_of s.given.items) s.same));
    }
