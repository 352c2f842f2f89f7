use Rattle.std.proofs.Common.{◌∙◌, Ok, OnErr, OnOk, subst, sym}
use Rattle.hub_rows.specs.Stops.{IsRenewed, Recovers}
use Rattle.hub_rows.specs.declared.store.Recovered.TheVariants.{Renewed}
use Rattle.hub_rows.specs.declared.store.StoreFault.{StoreFault}
use Rattle.store_sql.specs.Store.{IsCleanSql, sql_view}
use Rattle.store_sql.proofs.RecoverLaws.{recovers_none, recovers_renewed, recovers_whole}
use Rattle.store_sql.proofs.sql_store.SqlStoreStore.recover.Goals as goal

pub returns-then-is_whole-clause-recovers : goal.returns-then-is_whole-clause-recovers
returns-then-is_whole-clause-recovers g c = recovers_whole g.A.Store c.args.self.now c.is_whole.new.self (c.is_whole.ensures.whole c.if-is_whole.true) c.is_whole.ensures.stopped

pub returns-in_err-counted-clause-recovers : goal.returns-in_err-counted-clause-recovers
returns-in_err-counted-clause-recovers g c =
    subst (λ s. Recovers (sql_view g.A.Store c.args.self.now) (sql_view g.A.Store s) c.from_residual.result) (sym c.counted.ensures.rest)
    (recovers_none g.A.Store c.args.self.now c.is_whole.new.self c.renew-done.new.self c.counted.new.self.failures c.is_whole.ensures.taken c.renew-done.ensures.taken c.is_whole.ensures.stopped c.renew-done.ensures.stopped c.from_residual.result c.from_residual.ensures.0
    (subst (λ r. OnErr r (IsCleanSql g.A.Store c.renew-done.new.self → ⊥)) (sym c.counted.ensures.same ∙ c.in_err-counted.was) c.renew-done.ensures.lost))

pub returns-clause-recovers : goal.returns-clause-recovers
returns-clause-recovers g c =
    subst (λ s. Recovers {E = StoreFault} (sql_view g.A.Store c.args.self.now) (sql_view g.A.Store s) (Ok Renewed)) (sym c.counted.ensures.rest)
    (recovers_renewed g.A.Store c.args.self.now c.is_whole.new.self c.renew-done.new.self c.counted.new.self.failures c.is_whole.ensures.taken c.renew-done.ensures.taken c.is_whole.ensures.stopped c.renew-done.ensures.stopped
    (subst (λ r. OnOk r (IsRenewed (sql_view g.A.Store c.is_whole.new.self) (sql_view g.A.Store c.renew-done.new.self))) (sym c.counted.ensures.same ∙ c.in_ok-counted.was) c.renew-done.ensures.renewed))
