use Rattle.std.proofs.Common.{◌≡◌}
use Rattle.sqlite.specs.Held.{state}
use Rattle.hub_rows.specs.Transactions.{same_start_in}
use Rattle.store_sql.proofs.StoreLaws.{finds, keeps_still, reads}
use Rattle.store_sql.proofs.sql_store.SqlStoreStore.same_start.Goals as goal

pub invariant_of-self : goal.invariant_of-self
invariant_of-self g c = keeps_still (state g.A.Store c.self.inside.taken.value) (state g.A.Store c.self.inside.conn) (state g.A.Store c.same_start-found.new.conn) c.self.invariant c.same_start-found.result c.same_start-found.ensures.asks.same

pub returns-clause-reads : goal.returns-clause-reads
returns-clause-reads g c = reads g.A.Store (record { survives = g.met.A.Store.survives; shut = g.met.A.Store.shut_if_dirty; stays = g.met.A.Store.stays; settled = g.met.A.Store.settled }) c.self.view_is c.self.invariant c.same_start-found.ensures.asks c.counted.ensures.rest c.counted.ensures.same c.counted.ensures.failed c.counted.ensures.count

pub returns-clause-found : goal.returns-clause-found
returns-clause-found g c = finds g.A.Store (λ rows number. number ≡ same_start_in c.args.op.now c.args.station.now c.args.start.now rows.transactions) c.self.view_is c.self.invariant c.same_start-found.ensures.asks c.counted.ensures.rest c.counted.ensures.same
