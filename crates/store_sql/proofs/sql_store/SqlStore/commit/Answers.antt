use Rattle.std.proofs.Common.{◌≡◌, subst, sym, true}
use Rattle.hub_rows.specs.Stops.{PutsOnRecord}
use Rattle.sql_edits.specs.Batches.{same_rows}
use Rattle.store_sql.specs.Store.{SqlView, sql_view}
use Rattle.store_sql.proofs.ChangeLaws.{CommitsAll, CommitsNone, finds_old, flushes, flushes_none, lost_leaves}
use Rattle.store_sql.proofs.StopLaws.{IsDisk, none_waits}
use Rattle.store_sql.proofs.sql_store.SqlStore.commit.Given.{Over}
use Rattle.store_sql.proofs.sql_store.SqlStore.commit.Goals as goal

disk : (g : Over) → IsDisk g.A.Store
disk g = record { survives = g.met.A.Store.survives; shut = g.met.A.Store.shut_if_dirty; stays = g.met.A.Store.stays; settled = g.met.A.Store.settled }

pub returns-then-has_lost-clause-stopped : goal.returns-then-has_lost-clause-stopped
returns-then-has_lost-clause-stopped g c =
    let inside : SqlView _ = record { conn = c.self.inside.conn; failures = c.self.inside.failures; taken = c.self.inside.taken.value; changes = c.self.inside.changes; waiting = c.self.inside.waiting; lost = c.self.inside.lost } in
    (lost_leaves g.A.Store inside c.args.self.now c.self.view_is c.self.invariant).stopped

pub returns-then-self-eq0-clause-stopped : goal.returns-then-self-eq0-clause-stopped
returns-then-self-eq0-clause-stopped g c = finds_old g.A.Store c.args.self.now _

pub returns-then-self-eq0-clause-kept : goal.returns-then-self-eq0-clause-kept
returns-then-self-eq0-clause-kept g c =
    let inside : SqlView _ = record { conn = c.self.inside.conn; failures = c.self.inside.failures; taken = c.self.inside.taken.value; changes = c.self.inside.changes; waiting = c.self.inside.waiting; lost = c.self.inside.lost } in
    subst (λ o. PutsOnRecord (sql_view g.A.Store o) (sql_view g.A.Store o)) c.self.view_is (none_waits g.A.Store (disk g) inside c.self.invariant c.if-self-eq0.true)

flushed : (g : Over) (c : goal.After-self-in-Ok-2-1 g) → CommitsAll g.A.Store same_rows c.args.self.now
    (record { conn = c.flush.new.conn; failures = c.self.inside.failures; taken = c.self.inside.taken.value; changes = c.saturating_add-changes.result; waiting = 0; lost = c.self.inside.lost })
flushed g c = flushes g.A.Store (disk g)
    (record { conn = c.self.inside.conn; failures = c.self.inside.failures; taken = c.self.inside.taken.value; changes = c.self.inside.changes; waiting = c.self.inside.waiting; lost = c.self.inside.lost }) c.args.self.now c.self.view_is c.self.invariant
    (c.has_lost.ensures c.if-has_lost.false) c.if-self-eq0.false c.in-Ok.field-0 c.flush.new.conn c.saturating_add-changes.result c.in-Ok.ensures.commits

pub invariant_of-self-in-Ok : goal.invariant_of-self-in-Ok
invariant_of-self-in-Ok g c = (flushed g c).keeps

pub returns-in-Ok-clause-was_clean : goal.returns-in-Ok-clause-was_clean
returns-in-Ok-clause-was_clean g c = (flushed g c).was_clean

pub returns-in-Ok-clause-rows : goal.returns-in-Ok-clause-rows
returns-in-Ok-clause-rows g c = (flushed g c).rows

pub returns-in-Ok-clause-stopped : goal.returns-in-Ok-clause-stopped
returns-in-Ok-clause-stopped g c = (flushed g c).stopped

pub returns-in-Ok-clause-kept : goal.returns-in-Ok-clause-kept
returns-in-Ok-clause-kept g c = (flushed g c).puts

failed : (g : Over) (c : goal.After-self-in-Err-1 g) → CommitsNone g.A.Store same_rows c.args.self.now
    (record { conn = c.undo.new.conn; failures = c.self.inside.failures; taken = c.self.inside.taken.value; changes = c.self.inside.changes; waiting = c.self.inside.waiting; lost = true })
failed g c = flushes_none g.A.Store (disk g)
    (record { conn = c.self.inside.conn; failures = c.self.inside.failures; taken = c.self.inside.taken.value; changes = c.self.inside.changes; waiting = c.self.inside.waiting; lost = c.self.inside.lost }) c.args.self.now c.self.view_is c.self.invariant
    (c.has_lost.ensures c.if-has_lost.false) c.if-self-eq0.false c.in-Err.fault c.flush.new.conn c.undo.new.conn c.saturating_add-changes.result c.in-Err.ensures.commits c.undo.ensures.undoes

pub invariant_of-self-in-Err : goal.invariant_of-self-in-Err
invariant_of-self-in-Err g c = (failed g c).left.keeps

pub returns-in-Err-clause-stopped : goal.returns-in-Err-clause-stopped
returns-in-Err-clause-stopped g c = (failed g c).stopped
