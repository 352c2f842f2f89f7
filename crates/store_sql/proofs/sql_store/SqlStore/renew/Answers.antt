use Rattle.std.proofs.Common.{◌∙◌, false, sym, true}
use Rattle.store_sql.proofs.RecoverLaws.{Renews, RenewsNone, is_renewed, stays_lost, stays_undone}
use Rattle.store_sql.proofs.sql_store.SqlStore.renew.Given.{Over}
use Rattle.store_sql.proofs.sql_store.SqlStore.renew.Goals as goal

undone : (g : Over) (c : goal.Then-not-is_autocommit g) → RenewsNone g.A.Store c.args.self.now (record { conn = c.undo.new.conn; failures = c.self.inside.failures; taken = c.self.inside.taken.value; changes = c.self.inside.changes; waiting = c.self.inside.waiting; lost = true })
undone g c = stays_undone g.A.Store (record { survives = g.met.A.Store.survives; shut = g.met.A.Store.shut_if_dirty; stays = g.met.A.Store.stays; settled = g.met.A.Store.settled })
    (record { conn = c.self.inside.conn; failures = c.self.inside.failures; taken = c.self.inside.taken.value; changes = c.self.inside.changes; waiting = c.self.inside.waiting; lost = c.self.inside.lost }) c.args.self.now c.self.view_is c.self.invariant c.undo.new.conn c.undo.ensures.undoes

pub invariant_of-self : goal.invariant_of-self
invariant_of-self g c = (undone g c).keeps

lost : (g : Over) (c : goal.After-from_residual g) → RenewsNone g.A.Store c.args.self.now (record { conn = c.rest.new.conn; failures = c.self.inside.failures; taken = c.self.inside.taken.value; changes = c.self.inside.changes; waiting = c.self.inside.waiting; lost = true })
lost g c = stays_lost g.A.Store (record { survives = g.met.A.Store.survives; shut = g.met.A.Store.shut_if_dirty; stays = g.met.A.Store.stays; settled = g.met.A.Store.settled })
    (record { conn = c.self.inside.conn; failures = c.self.inside.failures; taken = c.self.inside.taken.value; changes = c.self.inside.changes; waiting = c.self.inside.waiting; lost = c.self.inside.lost }) c.args.self.now c.self.view_is c.self.invariant c.undo.new.conn c.undo.ensures.undoes (sym c.is_autocommit.ensures.value ∙ c.if-not-is_autocommit.false) c.rest.new.conn c.in_err-rest.field-0.0 c.in_err-rest.ensures.tries

pub invariant_of-self-in_err-rest : goal.invariant_of-self-in_err-rest
invariant_of-self-in_err-rest g c = (lost g c).keeps

pub returns-in_err-rest-clause-stopped : goal.returns-in_err-rest-clause-stopped
returns-in_err-rest-clause-stopped g c = (lost g c).stopped

renewed : (g : Over) (c : goal.After-self-3-1 g) → Renews g.A.Store c.args.self.now (record { conn = c.rest.new.conn; failures = c.self.inside.failures; taken = c.self.inside.taken.value; changes = c.self.inside.changes; waiting = 0; lost = false })
renewed g c = is_renewed g.A.Store (record { survives = g.met.A.Store.survives; shut = g.met.A.Store.shut_if_dirty; stays = g.met.A.Store.stays; settled = g.met.A.Store.settled })
    (record { conn = c.self.inside.conn; failures = c.self.inside.failures; taken = c.self.inside.taken.value; changes = c.self.inside.changes; waiting = c.self.inside.waiting; lost = c.self.inside.lost }) c.args.self.now c.self.view_is c.self.invariant c.undo.new.conn c.undo.ensures.undoes (sym c.is_autocommit.ensures.value ∙ c.if-not-is_autocommit.false) c.rest.new.conn c.in_ok-rest.field-0 c.in_ok-rest.ensures.tries

pub invariant_of-self-2 : goal.invariant_of-self-2
invariant_of-self-2 g c = (renewed g c).keeps

pub returns-clause-renewed : goal.returns-clause-renewed
returns-clause-renewed g c = (renewed g c).renewed

pub returns-clause-stopped : goal.returns-clause-stopped
returns-clause-stopped g c = (renewed g c).stopped
