use Rattle.std.proofs.Common.{sym, ◌∙◌}
use Rattle.store_mem.specs.Groups.{all_of}
use Rattle.store_mem.proofs.GroupLaws.{those-all}
use Rattle.store_mem.proofs.mem_store.MemStoreStore.uses.Goals as goal

pub returns-clause-found : goal.returns-clause-found
returns-clause-found c = λ _.
    c.in_ok-copies.ensures ∙ c.of_owner.ensures ∙ sym (those-all (λ r. r.op) c.args.op.now (all_of c.args.self.now.lists.uses.groups.items))
