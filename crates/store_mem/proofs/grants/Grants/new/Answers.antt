use Rattle.std.proofs.Common.{map, ap, sym, subst, ◌∙◌}
use Rattle.hub_rows.specs.Grants.{received_key}
use Rattle.hub_rows.specs.Keyed.{by_key, in_order}
use Rattle.hub_rows.specs.Rows.{grant_key}
use Rattle.store_mem.specs.Groups.{all_of, AreGroups}
use Rattle.store_mem.specs.Received.{receiver_key}
use Rattle.store_mem.proofs.GroupLaws.{no-groups}
use Rattle.store_mem.proofs.grants.Grants.new.Goals as goal

pub invariant_of-result : goal.invariant_of-result
invariant_of-result c = record {
  by_owner = subst (AreGroups grant_key (λ r. r.op)) (sym c.new.ensures.items) (no-groups grant_key (λ r. r.op));
  by_receiver = subst (AreGroups receiver_key (λ r. r.grant.to)) (sym c.new-2.ensures.items) (no-groups receiver_key (λ r. r.grant.to));
  same = ap (λ gs. map (λ r. r.grant) (all_of gs)) c.new-2.ensures.items ∙ sym (ap (λ gs. in_order (by_key received_key) (all_of gs)) c.new.ensures.items);
}
