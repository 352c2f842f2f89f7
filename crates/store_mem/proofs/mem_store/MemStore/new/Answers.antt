use Rattle.std.proofs.Common.{sym, subst}
use Rattle.hub_rows.specs.WellFormed.{WellFormedRows}
use Rattle.hub_rows.proofs.WellFormedLaws.{well_formed-no_rows}
use Rattle.store_mem.proofs.mem_store.MemStore.new.Goals as goal

pub invariant_of-result : goal.invariant_of-result
invariant_of-result c = record { good = subst WellFormedRows (sym c.new.ensures) well_formed-no_rows }
