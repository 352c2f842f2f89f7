use Rattle.std.proofs.Common.{Err, Ok, Result}
use Rattle.hub_rows.specs.declared.store.StoreFault.{StoreFault}
use Rattle.sql_rows.proofs.StoreLemmas.{open_is_clean}
use Rattle.sql_edits.proofs.BatchLaws.{begin_opens, begin_stops, ran_begin, tries_err, tries_then}
use Rattle.sql_edits.proofs.batches.rest.Goals as goal

pub returns-in_err-done : goal.returns-in_err-done
returns-in_err-done g c =
    let q : Result (Unit {0}) StoreFault = Err c.in_err-done.field-0.0 in
    record {
      tries = tries_err (ran_begin c.execute.result q c.execute.ensures.runs c.execute.ensures.survives (open_is_clean _ _ (g.met.S.Store.shut_if_dirty c.execute.new.self.store)) c.in_err-done.ensures.ok c.in_err-done.ensures.err)
          (begin_stops _ _ c.execute.ensures.survives) c.execute.ensures.survives.clean c.from_residual.ensures.0;
    }

pub returns : goal.returns
returns g c =
    let q : Result (Unit {0}) StoreFault = Ok c.in_ok-done.field-0 in
    record {
      tries = tries_then (ran_begin c.execute.result q c.execute.ensures.runs c.execute.ensures.survives (open_is_clean _ _ (g.met.S.Store.shut_if_dirty c.execute.new.self.store)) c.in_ok-done.ensures.ok c.in_ok-done.ensures.err)
          (begin_stops _ _ c.execute.ensures.survives) c.execute.ensures.survives.clean (begin_opens _ _ c.execute.result q c.execute.ensures.runs c.in_ok-done.ensures.ok) c.commit.ensures.commits;
    }
