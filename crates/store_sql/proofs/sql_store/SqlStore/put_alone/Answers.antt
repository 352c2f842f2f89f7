use Rattle.std.proofs.Common.{true}
use Rattle.hub_rows.specs.Changes.{edit}
use Rattle.store_sql.proofs.ChangeLaws.{CommitsAll, CommitsNone, commits_change, commits_no_change, finds_old}
use Rattle.store_sql.proofs.sql_store.SqlStore.put_alone.Given.{Over}
use Rattle.store_sql.proofs.sql_store.SqlStore.put_alone.Goals as goal

pub returns-then-has_lost-clause-stopped : goal.returns-then-has_lost-clause-stopped
returns-then-has_lost-clause-stopped g c = finds_old g.A.Store c.args.self.now _

made : (g : Over) (c : goal.After-self-in-Ok-1 g) → CommitsAll g.A.Store (edit c.args.change.now.op.now c.args.change.now.edit.now) c.args.self.now
    (record { conn = c.apply_now.new.conn; failures = c.self.inside.failures; taken = c.self.inside.taken.value; changes = c.saturating_add-changes.result; waiting = 0; lost = c.self.inside.lost })
made g c = commits_change g.A.Store (record { survives = g.met.A.Store.survives; shut = g.met.A.Store.shut_if_dirty; stays = g.met.A.Store.stays; settled = g.met.A.Store.settled })
    (record { conn = c.self.inside.conn; failures = c.self.inside.failures; taken = c.self.inside.taken.value; changes = c.self.inside.changes; waiting = c.self.inside.waiting; lost = c.self.inside.lost }) c.args.self.now c.self.view_is c.self.invariant
    (c.has_lost.ensures c.if-has_lost.false) c.args.change.now.op.now c.args.change.now.edit.now c.requires.fits c.in-Ok.field-0 c.apply_now.new.conn c.saturating_add-changes.result c.in-Ok.ensures.commits

pub invariant_of-self : goal.invariant_of-self
invariant_of-self g c = (made g c).keeps

pub returns-in-Ok-clause-was_clean : goal.returns-in-Ok-clause-was_clean
returns-in-Ok-clause-was_clean g c = (made g c).was_clean

pub returns-in-Ok-clause-ok : goal.returns-in-Ok-clause-ok
returns-in-Ok-clause-ok g c = (made g c).rows

pub returns-in-Ok-clause-stopped : goal.returns-in-Ok-clause-stopped
returns-in-Ok-clause-stopped g c = (made g c).stopped

pub returns-in-Ok-clause-puts : goal.returns-in-Ok-clause-puts
returns-in-Ok-clause-puts g c = (made g c).puts

undone : (g : Over) (c : goal.After-self-in-Err-1 g) → CommitsNone g.A.Store (edit c.args.change.now.op.now c.args.change.now.edit.now) c.args.self.now
    (record { conn = c.undo-self-inside.new.conn; failures = c.self.inside.failures; taken = c.self.inside.taken.value; changes = c.self.inside.changes; waiting = c.self.inside.waiting; lost = c.undo-self-inside.result })
undone g c = commits_no_change g.A.Store (record { survives = g.met.A.Store.survives; shut = g.met.A.Store.shut_if_dirty; stays = g.met.A.Store.stays; settled = g.met.A.Store.settled })
    (record { conn = c.self.inside.conn; failures = c.self.inside.failures; taken = c.self.inside.taken.value; changes = c.self.inside.changes; waiting = c.self.inside.waiting; lost = c.self.inside.lost }) c.args.self.now c.self.view_is c.self.invariant
    (c.has_lost.ensures c.if-has_lost.false) c.args.change.now.op.now c.args.change.now.edit.now c.requires.fits c.in-Err.fault c.apply_now.new.conn c.undo-self-inside.new.conn c.saturating_add-changes.result c.undo-self-inside.result c.in-Err.ensures.commits c.undo-self-inside.ensures.undoes c.undo-self-inside.ensures.none

pub invariant_of-self-in-Err : goal.invariant_of-self-in-Err
invariant_of-self-in-Err g c = (undone g c).left.keeps

pub returns-in-Err-clause-was_clean : goal.returns-in-Err-clause-was_clean
returns-in-Err-clause-was_clean g c = (undone g c).left.was_clean

pub returns-in-Err-clause-err : goal.returns-in-Err-clause-err
returns-in-Err-clause-err g c = (undone g c).left.rows

pub returns-in-Err-clause-stopped : goal.returns-in-Err-clause-stopped
returns-in-Err-clause-stopped g c = (undone g c).stopped
