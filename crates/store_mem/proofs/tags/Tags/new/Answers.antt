use Rattle.std.proofs.Common.{sym, subst}
use Rattle.hub_rows.specs.Rows.{tag_key}
use Rattle.store_mem.specs.Groups.{AreGroups}
use Rattle.store_mem.proofs.GroupLaws.{no-groups}
use Rattle.store_mem.proofs.tags.Tags.new.Goals as goal

pub invariant_of-result : goal.invariant_of-result
invariant_of-result c = record { by_operator = subst (AreGroups tag_key (λ r. r.op)) (sym c.new.ensures.items) (no-groups tag_key (λ r. r.op)) }
