use Rattle.std.proofs.Common.{Ok}
use Rattle.hub_rows.specs.Changes.{edit}
use Rattle.hub_rows.specs.WellFormed.{WellFormedRows}
use Rattle.hub_rows.proofs.WellFormedLaws.{well_formed-edit}
use Rattle.store_mem.specs.Lists.{rows_in}
use Rattle.store_mem.proofs.Kept.{by_result}
use Rattle.store_mem.proofs.NeverKept.{records_all}
use Rattle.store_mem.proofs.mem_store.MemStoreStore.apply.Goals as goal

pub invariant_of-self : goal.invariant_of-self
invariant_of-self c =
    let s = c.args.self.now in
    let rows = rows_in s.lists in
    let change = c.args.change.now in
    record {
      good = by_result WellFormedRows c.make.result (rows_in c.make.new.self) (edit change.op.now change.edit.now rows) rows
          (well_formed-edit change.op.now change.edit.now rows s.good (c.requires tt)) s.good c.make.ensures.ok c.make.ensures.err;
    }

-- it is never kept
pub returns-in_err-make-clause-records : goal.returns-in_err-make-clause-records
returns-in_err-make-clause-records c = records_all c.args._when _ (rows_in c.args.self.now.lists) (rows_in c.make.new.self) c.from_residual.result

pub returns-clause-records : goal.returns-clause-records
returns-clause-records c = records_all c.args._when _ (rows_in c.args.self.now.lists) (rows_in c.make.new.self) (Ok tt)
