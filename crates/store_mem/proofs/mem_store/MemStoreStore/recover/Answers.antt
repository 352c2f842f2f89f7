use Rattle.store_mem.specs.Lists.{rows_in}
use Rattle.store_mem.proofs.NeverKept.{recovers_whole}
use Rattle.store_mem.proofs.mem_store.MemStoreStore.recover.Goals as goal

pub returns-clause-recovers : goal.returns-clause-recovers
returns-clause-recovers c = recovers_whole (rows_in c.args.self.now.lists)
