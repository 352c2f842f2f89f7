use Rattle.std.proofs.Common.{rules, true}
use Rattle.store_sql.proofs.ChangeLaws.{AddsNone, AddsTo, more_alone, more_none, more_to}
use Rattle.store_sql.proofs.sql_store.SqlStore.add_more.Given.{Over}
use Rattle.store_sql.proofs.sql_store.SqlStore.add_more.Goals as goal

added : (g : Over) (c : goal.After-self-1 g) → AddsTo g.A.Store c.args.change.now.op.now c.args.change.now.edit.now c.args.self.now
    (record { conn = c.apply_more.new.conn; failures = c.self.inside.failures; taken = c.self.inside.taken.value; changes = c.self.inside.changes; waiting = c.saturating_add-self-inside.result; lost = c.self.inside.lost })
added g c = more_to g.A.Store (record { survives = g.met.A.Store.survives; shut = g.met.A.Store.shut_if_dirty; stays = g.met.A.Store.stays; settled = g.met.A.Store.settled })
    (record { conn = c.self.inside.conn; failures = c.self.inside.failures; taken = c.self.inside.taken.value; changes = c.self.inside.changes; waiting = c.self.inside.waiting; lost = c.self.inside.lost }) c.args.self.now c.self.view_is c.self.invariant
    c.requires.holds c.args.change.now.op.now c.args.change.now.edit.now c.requires.fits c.requires.some c.in-Ok.field-0 c.apply_more.new.conn c.saturating_add-self-inside.result (search rules) c.in-Ok.ensures.adds

pub invariant_of-self : goal.invariant_of-self
invariant_of-self g c = (added g c).keeps

pub returns-in-Ok-clause-was_clean : goal.returns-in-Ok-clause-was_clean
returns-in-Ok-clause-was_clean g c = (added g c).was_clean

pub returns-in-Ok-clause-ok : goal.returns-in-Ok-clause-ok
returns-in-Ok-clause-ok g c = (added g c).rows

pub returns-in-Ok-clause-waits : goal.returns-in-Ok-clause-waits
returns-in-Ok-clause-waits g c = (added g c).stays

alone : (g : Over) (c : goal.In-Err-Alone g) → AddsNone g.A.Store c.args.self.now
    (record { conn = c.apply_more.new.conn; failures = c.self.inside.failures; taken = c.self.inside.taken.value; changes = c.self.inside.changes; waiting = c.self.inside.waiting; lost = c.self.inside.lost })
alone g c = more_alone g.A.Store (record { survives = g.met.A.Store.survives; shut = g.met.A.Store.shut_if_dirty; stays = g.met.A.Store.stays; settled = g.met.A.Store.settled })
    (record { conn = c.self.inside.conn; failures = c.self.inside.failures; taken = c.self.inside.taken.value; changes = c.self.inside.changes; waiting = c.self.inside.waiting; lost = c.self.inside.lost }) c.args.self.now c.self.view_is c.self.invariant
    c.requires.holds c.args.change.now.op.now c.args.change.now.edit.now c.requires.fits c.requires.some c.in-Err-Alone.fault c.in-Err-Alone.field-0-is c.apply_more.new.conn c.in-Err-Alone.ensures.adds

pub invariant_of-self-in-Err-Alone : goal.invariant_of-self-in-Err-Alone
invariant_of-self-in-Err-Alone g c = (alone g c).left.keeps

pub returns-in-Err-Alone-clause-was_clean : goal.returns-in-Err-Alone-clause-was_clean
returns-in-Err-Alone-clause-was_clean g c = (alone g c).left.was_clean

pub returns-in-Err-Alone-clause-err : goal.returns-in-Err-Alone-clause-err
returns-in-Err-Alone-clause-err g c = (alone g c).left.rows

pub returns-in-Err-Alone-clause-left : goal.returns-in-Err-Alone-clause-left
returns-in-Err-Alone-clause-left g c = (alone g c).finds

undone : (g : Over) (c : goal.After-self-in-Err-WithBatch-1 g) → AddsNone g.A.Store c.args.self.now
    (record { conn = c.undo.new.conn; failures = c.self.inside.failures; taken = c.self.inside.taken.value; changes = c.self.inside.changes; waiting = c.self.inside.waiting; lost = true })
undone g c = more_none g.A.Store (record { survives = g.met.A.Store.survives; shut = g.met.A.Store.shut_if_dirty; stays = g.met.A.Store.stays; settled = g.met.A.Store.settled })
    (record { conn = c.self.inside.conn; failures = c.self.inside.failures; taken = c.self.inside.taken.value; changes = c.self.inside.changes; waiting = c.self.inside.waiting; lost = c.self.inside.lost }) c.args.self.now c.self.view_is c.self.invariant
    c.requires.holds c.args.change.now.op.now c.args.change.now.edit.now c.requires.fits c.requires.some c.in-Err-WithBatch.fault c.in-Err-WithBatch.field-0-is c.apply_more.new.conn c.undo.new.conn c.in-Err-WithBatch.ensures.adds c.undo.ensures.undoes

pub invariant_of-self-in-Err-WithBatch : goal.invariant_of-self-in-Err-WithBatch
invariant_of-self-in-Err-WithBatch g c = (undone g c).left.keeps

pub returns-in-Err-WithBatch-clause-left : goal.returns-in-Err-WithBatch-clause-left
returns-in-Err-WithBatch-clause-left g c = (undone g c).finds
