use Rattle.std.proofs.Common.{false, true}
use Rattle.store_sql.proofs.RecoverLaws.{TellsWhole, batch_gone, batch_there}
use Rattle.store_sql.proofs.sql_store.SqlStore.has_batch.Given.{Over}
use Rattle.store_sql.proofs.sql_store.SqlStore.has_batch.Goals as goal

there : (g : Over) (c : goal.Then-goes_on g) → TellsWhole g.A.Store c.args.self.now (record { conn = c.goes_on.new.conn; failures = c.self.inside.failures; taken = c.self.inside.taken.value; changes = c.self.inside.changes; waiting = c.self.inside.waiting; lost = c.self.inside.lost }) true
there g c = batch_there g.A.Store (record { survives = g.met.A.Store.survives; shut = g.met.A.Store.shut_if_dirty; stays = g.met.A.Store.stays; settled = g.met.A.Store.settled })
    (record { conn = c.self.inside.conn; failures = c.self.inside.failures; taken = c.self.inside.taken.value; changes = c.self.inside.changes; waiting = c.self.inside.waiting; lost = c.self.inside.lost }) c.args.self.now c.self.view_is c.self.invariant c.requires.holds c.requires.some c.goes_on.new.conn c.if-goes_on.true c.goes_on.ensures.tells

pub invariant_of-self : goal.invariant_of-self
invariant_of-self g c = (there g c).keeps

pub returns-then-goes_on-clause-whole : goal.returns-then-goes_on-clause-whole
returns-then-goes_on-clause-whole g c = (there g c).whole

pub returns-then-goes_on-clause-stopped : goal.returns-then-goes_on-clause-stopped
returns-then-goes_on-clause-stopped g c = (there g c).stopped

gone : (g : Over) (c : goal.After-self-1 g) → TellsWhole g.A.Store c.args.self.now (record { conn = c.goes_on.new.conn; failures = c.self.inside.failures; taken = c.self.inside.taken.value; changes = c.self.inside.changes; waiting = c.self.inside.waiting; lost = true }) false
gone g c = batch_gone g.A.Store (record { survives = g.met.A.Store.survives; shut = g.met.A.Store.shut_if_dirty; stays = g.met.A.Store.stays; settled = g.met.A.Store.settled })
    (record { conn = c.self.inside.conn; failures = c.self.inside.failures; taken = c.self.inside.taken.value; changes = c.self.inside.changes; waiting = c.self.inside.waiting; lost = c.self.inside.lost }) c.args.self.now c.self.view_is c.self.invariant c.requires.holds c.requires.some c.goes_on.new.conn c.if-goes_on.false c.goes_on.ensures.tells

pub invariant_of-self-2 : goal.invariant_of-self-2
invariant_of-self-2 g c = (gone g c).keeps

pub returns-clause-stopped : goal.returns-clause-stopped
returns-clause-stopped g c = (gone g c).stopped
