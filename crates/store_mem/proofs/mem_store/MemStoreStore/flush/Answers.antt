use Rattle.store_mem.specs.Lists.{rows_in}
use Rattle.store_mem.proofs.NeverKept.{kept_then, stops_whole}
use Rattle.store_mem.proofs.mem_store.MemStoreStore.flush.Goals as goal

-- it is never kept
pub returns-clause-stopped : goal.returns-clause-stopped
returns-clause-stopped c = stops_whole _ (rows_in c.args.self.now.lists) (rows_in c.args.self.now.lists)

pub returns-clause-kept : goal.returns-clause-kept
returns-clause-kept c = kept_then (rows_in c.args.self.now.lists) (rows_in c.args.self.now.lists)
