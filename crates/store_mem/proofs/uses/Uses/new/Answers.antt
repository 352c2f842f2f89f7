use Rattle.std.proofs.Common.{sym, subst}
use Rattle.hub_rows.specs.Rows.{use_key}
use Rattle.store_mem.specs.Groups.{AreGroups}
use Rattle.store_mem.proofs.GroupLaws.{no-groups}
use Rattle.store_mem.proofs.uses.Uses.new.Goals as goal

pub invariant_of-result : goal.invariant_of-result
invariant_of-result c = record { by_owner = subst (AreGroups use_key (λ r. r.op)) (sym c.new.ensures.items) (no-groups use_key (λ r. r.op)) }
