use Rattle.std.proofs.Common.{◌≡◌, ◌≤◌, OnErr, OnOk, subst, sym, ◌∙◌}
use Rattle.hub_rows.specs.Failures.{Rose}
use Rattle.hub_rows.specs.Stops.{FindsOldOr, PutsOnRecord}
use Rattle.store_sql.specs.Store.{IsCleanSql, sql_rows, sql_view}
use Rattle.store_sql.proofs.sql_store.SqlStoreStore.flush.Goals as goal

pub returns-clause-counted : goal.returns-clause-counted
returns-clause-counted g c = record {
  was_clean = λ clean. c.commit-done.ensures.was_clean (subst (IsCleanSql g.A.Store) c.counted.ensures.rest clean);
  failed = λ e. subst (λ n. Rose n c.counted.new.self.failures) c.commit-done.ensures.failures (c.counted.ensures.failed (sym c.counted.ensures.same ∙ e));
  count = subst (λ n. n ≤ c.counted.new.self.failures) c.commit-done.ensures.failures c.counted.ensures.count;
}

pub returns-clause-rows : goal.returns-clause-rows
returns-clause-rows g c = subst (λ s. IsCleanSql g.A.Store s → sql_rows g.A.Store s ≡ sql_rows g.A.Store c.args.self.now) (sym c.counted.ensures.rest) c.commit-done.ensures.rows

pub returns-clause-stopped : goal.returns-clause-stopped
returns-clause-stopped g c =
    subst (λ s. FindsOldOr (sql_rows g.A.Store c.args.self.now) (sql_view g.A.Store c.args.self.now) (sql_view g.A.Store s)) (sym c.counted.ensures.rest) c.commit-done.ensures.stopped

pub returns-clause-kept : goal.returns-clause-kept
returns-clause-kept g c =
    subst (λ s. OnOk c.counted.result (PutsOnRecord (sql_view g.A.Store c.args.self.now) (sql_view g.A.Store s))) (sym c.counted.ensures.rest)
    (subst (λ r. OnOk r (PutsOnRecord (sql_view g.A.Store c.args.self.now) (sql_view g.A.Store c.commit-done.new.self))) (sym c.counted.ensures.same) c.commit-done.ensures.kept)

pub returns-clause-lost : goal.returns-clause-lost
returns-clause-lost g c =
    subst (λ s. OnErr c.counted.result (IsCleanSql g.A.Store s → ⊥)) (sym c.counted.ensures.rest)
    (subst (λ r. OnErr r (IsCleanSql g.A.Store c.commit-done.new.self → ⊥)) (sym c.counted.ensures.same) c.commit-done.ensures.lost)
