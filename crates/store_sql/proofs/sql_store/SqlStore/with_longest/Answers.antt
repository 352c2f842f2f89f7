use Rattle.std.proofs.Common.{subst, sym}
use Rattle.hub_rows.specs.Stops.{IsKept}
use Rattle.store_sql.specs.Store.{IsCleanSql, sql_view}
use Rattle.store_sql.proofs.StoreLaws.{clean_with, keeps_limited, kept_with}
use Rattle.store_sql.proofs.sql_store.SqlStore.with_longest.Goals as goal

pub invariant_of-result : goal.invariant_of-result
invariant_of-result g c = keeps_limited g.A.Store c.self.inside.taken.value c.self.inside.conn c.set_step_limit.new.self c.self.inside.changes c.self.inside.waiting c.self.inside.lost _ c.self.invariant c.set_step_limit.ensures

pub returns-clause-clean : goal.returns-clause-clean
returns-clause-clean g c = λ clean.
    clean_with g.A.Store (record { conn = c.self.inside.conn; failures = c.self.inside.failures; taken = c.self.inside.taken.value; changes = c.self.inside.changes; waiting = c.self.inside.waiting; lost = c.self.inside.lost }) _ c.set_step_limit.new.self c.set_step_limit.ensures
    (subst (IsCleanSql g.A.Store) (sym c.self.view_is) clean)

pub returns-clause-kept : goal.returns-clause-kept
returns-clause-kept g c = λ kept.
    kept_with g.A.Store (record { conn = c.self.inside.conn; failures = c.self.inside.failures; taken = c.self.inside.taken.value; changes = c.self.inside.changes; waiting = c.self.inside.waiting; lost = c.self.inside.lost }) _ c.set_step_limit.new.self c.set_step_limit.ensures
    (subst (λ s. IsKept (sql_view g.A.Store s)) (sym c.self.view_is) kept)
