use Rattle.std.proofs.Common.{◌≡◌, ◌≤◌, OnErr, OnOk, subst, sym, ◌∙◌}
use Rattle.hub_rows.specs.Changes.{edit}
use Rattle.hub_rows.specs.Failures.{Rose}
use Rattle.hub_rows.specs.Stops.{Records}
use Rattle.store_sql.specs.Store.{IsCleanSql, sql_rows, sql_view}
use Rattle.store_sql.proofs.sql_store.SqlStoreStore.apply.Goals as goal

pub returns-clause-counted : goal.returns-clause-counted
returns-clause-counted g c = record {
  was_clean = λ clean. c.put-done.ensures.was_clean (subst (IsCleanSql g.A.Store) c.counted.ensures.rest clean);
  failed = λ e. subst (λ n. Rose n c.counted.new.self.failures) c.put-done.ensures.failures (c.counted.ensures.failed (sym c.counted.ensures.same ∙ e));
  count = subst (λ n. n ≤ c.counted.new.self.failures) c.put-done.ensures.failures c.counted.ensures.count;
}

pub returns-clause-ok : goal.returns-clause-ok
returns-clause-ok g c =
    let made = edit c.args.change.now.op.now c.args.change.now.edit.now (sql_rows g.A.Store c.args.self.now) in
    subst (λ s. IsCleanSql g.A.Store s → OnOk c.counted.result (sql_rows g.A.Store s ≡ made)) (sym c.counted.ensures.rest)
    (subst (λ r. IsCleanSql g.A.Store c.put-done.new.self → OnOk r (sql_rows g.A.Store c.put-done.new.self ≡ made)) (sym c.counted.ensures.same) c.put-done.ensures.ok)

pub returns-clause-err : goal.returns-clause-err
returns-clause-err g c =
    let old = sql_rows g.A.Store c.args.self.now in
    subst (λ s. IsCleanSql g.A.Store s → OnErr c.counted.result (sql_rows g.A.Store s ≡ old)) (sym c.counted.ensures.rest)
    (subst (λ r. IsCleanSql g.A.Store c.put-done.new.self → OnErr r (sql_rows g.A.Store c.put-done.new.self ≡ old)) (sym c.counted.ensures.same) c.put-done.ensures.err)

pub returns-clause-records : goal.returns-clause-records
returns-clause-records g c =
    let made = edit c.args.change.now.op.now c.args.change.now.edit.now (sql_rows g.A.Store c.args.self.now) in
    let it : Records c.args.when made (sql_view g.A.Store c.args.self.now) (sql_view g.A.Store c.put-done.new.self) c.counted.result
    = subst (λ r. Records c.args.when made (sql_view g.A.Store c.args.self.now) (sql_view g.A.Store c.put-done.new.self) r) (sym c.counted.ensures.same) c.put-done.ensures.records in
    subst (λ s. Records c.args.when made (sql_view g.A.Store c.args.self.now) (sql_view g.A.Store s) c.counted.result) (sym c.counted.ensures.rest) (record { stopped = it.stopped; kept = it.kept; waits = it.waits; left = it.left })
