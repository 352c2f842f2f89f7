use Rattle.std.proofs.Common.{false, true}
use Rattle.store_sql.proofs.RecoverLaws.{TellsWhole, resting_gone, resting_there}
use Rattle.store_sql.proofs.sql_store.SqlStore.is_resting.Given.{Over}
use Rattle.store_sql.proofs.sql_store.SqlStore.is_resting.Goals as goal

there : (g : Over) (c : goal.In-Ok g) → TellsWhole g.A.Store c.args.self.now (record { conn = c.rest.new.conn; failures = c.self.inside.failures; taken = c.self.inside.taken.value; changes = c.self.inside.changes; waiting = c.self.inside.waiting; lost = c.self.inside.lost }) true
there g c = resting_there g.A.Store (record { survives = g.met.A.Store.survives; shut = g.met.A.Store.shut_if_dirty; stays = g.met.A.Store.stays; settled = g.met.A.Store.settled })
    (record { conn = c.self.inside.conn; failures = c.self.inside.failures; taken = c.self.inside.taken.value; changes = c.self.inside.changes; waiting = c.self.inside.waiting; lost = c.self.inside.lost }) c.args.self.now c.self.view_is c.self.invariant c.requires.holds c.requires.none c.rest.new.conn c.in-Ok.field-0 c.in-Ok.ensures.tries

pub invariant_of-self : goal.invariant_of-self
invariant_of-self g c = (there g c).keeps

pub returns-in-Ok-clause-whole : goal.returns-in-Ok-clause-whole
returns-in-Ok-clause-whole g c = (there g c).whole

pub returns-in-Ok-clause-stopped : goal.returns-in-Ok-clause-stopped
returns-in-Ok-clause-stopped g c = (there g c).stopped

gone : (g : Over) (c : goal.After-self-1 g) → TellsWhole g.A.Store c.args.self.now (record { conn = c.rest.new.conn; failures = c.self.inside.failures; taken = c.self.inside.taken.value; changes = c.self.inside.changes; waiting = c.self.inside.waiting; lost = true }) false
gone g c = resting_gone g.A.Store (record { survives = g.met.A.Store.survives; shut = g.met.A.Store.shut_if_dirty; stays = g.met.A.Store.stays; settled = g.met.A.Store.settled })
    (record { conn = c.self.inside.conn; failures = c.self.inside.failures; taken = c.self.inside.taken.value; changes = c.self.inside.changes; waiting = c.self.inside.waiting; lost = c.self.inside.lost }) c.args.self.now c.self.view_is c.self.invariant c.requires.holds c.requires.none c.rest.new.conn c.in-Err.field-0 c.in-Err.ensures.tries

pub invariant_of-self-in-Err : goal.invariant_of-self-in-Err
invariant_of-self-in-Err g c = (gone g c).keeps

pub returns-in-Err-clause-stopped : goal.returns-in-Err-clause-stopped
returns-in-Err-clause-stopped g c = (gone g c).stopped
