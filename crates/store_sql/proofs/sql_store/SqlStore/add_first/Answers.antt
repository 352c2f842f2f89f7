use Rattle.std.proofs.Common.{rules}
use Rattle.store_sql.proofs.ChangeLaws.{AddsNone, AddsTo, adds_none, adds_to}
use Rattle.store_sql.proofs.sql_store.SqlStore.add_first.Given.{Over}
use Rattle.store_sql.proofs.sql_store.SqlStore.add_first.Goals as goal

added : (g : Over) (c : goal.After-self-1 g) → AddsTo g.A.Store c.args.change.now.op.now c.args.change.now.edit.now c.args.self.now
    (record { conn = c.apply.new.conn; failures = c.self.inside.failures; taken = c.self.inside.taken.value; changes = c.self.inside.changes; waiting = c.saturating_add-self-inside.result; lost = c.self.inside.lost })
added g c = adds_to g.A.Store (record { survives = g.met.A.Store.survives; shut = g.met.A.Store.shut_if_dirty; stays = g.met.A.Store.stays; settled = g.met.A.Store.settled })
    (record { conn = c.self.inside.conn; failures = c.self.inside.failures; taken = c.self.inside.taken.value; changes = c.self.inside.changes; waiting = c.self.inside.waiting; lost = c.self.inside.lost }) c.args.self.now c.self.view_is c.self.invariant
    c.requires.holds c.args.change.now.op.now c.args.change.now.edit.now c.requires.fits c.in-Ok.field-0 c.apply.new.conn c.saturating_add-self-inside.result (search rules) c.in-Ok.ensures.adds

pub invariant_of-self : goal.invariant_of-self
invariant_of-self g c = (added g c).keeps

pub returns-in-Ok-clause-was_clean : goal.returns-in-Ok-clause-was_clean
returns-in-Ok-clause-was_clean g c = (added g c).was_clean

pub returns-in-Ok-clause-ok : goal.returns-in-Ok-clause-ok
returns-in-Ok-clause-ok g c = (added g c).rows

pub returns-in-Ok-clause-waits : goal.returns-in-Ok-clause-waits
returns-in-Ok-clause-waits g c = (added g c).stays

undone : (g : Over) (c : goal.After-self-in-Err-1 g) → AddsNone g.A.Store c.args.self.now
    (record { conn = c.undo-self-inside.new.conn; failures = c.self.inside.failures; taken = c.self.inside.taken.value; changes = c.self.inside.changes; waiting = c.self.inside.waiting; lost = c.undo-self-inside.result })
undone g c = adds_none g.A.Store (record { survives = g.met.A.Store.survives; shut = g.met.A.Store.shut_if_dirty; stays = g.met.A.Store.stays; settled = g.met.A.Store.settled })
    (record { conn = c.self.inside.conn; failures = c.self.inside.failures; taken = c.self.inside.taken.value; changes = c.self.inside.changes; waiting = c.self.inside.waiting; lost = c.self.inside.lost }) c.args.self.now c.self.view_is c.self.invariant
    c.requires.holds c.args.change.now.op.now c.args.change.now.edit.now c.requires.fits c.in-Err.fault c.apply.new.conn c.undo-self-inside.new.conn c.undo-self-inside.result c.in-Err.ensures.adds c.undo-self-inside.ensures.undoes c.undo-self-inside.ensures.none

pub invariant_of-self-in-Err : goal.invariant_of-self-in-Err
invariant_of-self-in-Err g c = (undone g c).left.keeps

pub returns-in-Err-clause-was_clean : goal.returns-in-Err-clause-was_clean
returns-in-Err-clause-was_clean g c = (undone g c).left.was_clean

pub returns-in-Err-clause-err : goal.returns-in-Err-clause-err
returns-in-Err-clause-err g c = (undone g c).left.rows

pub returns-in-Err-clause-left : goal.returns-in-Err-clause-left
returns-in-Err-clause-left g c = (undone g c).finds
