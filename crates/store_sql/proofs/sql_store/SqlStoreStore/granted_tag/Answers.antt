use Rattle.std.proofs.Common.{◌≡◌, IfOk, subst}
use Rattle.sqlite.specs.Held.{state}
use Rattle.hub_rows.specs.Grants.{granted_tag_in}
use Rattle.store_sql.specs.Store.{sql_rows}
use Rattle.store_sql.proofs.StoreLaws.{finds, keeps_still, reads}
use Rattle.store_sql.proofs.sql_store.SqlStoreStore.granted_tag.Goals as goal

pub invariant_of-self : goal.invariant_of-self
invariant_of-self g c = keeps_still (state g.A.Store c.self.inside.taken.value) (state g.A.Store c.self.inside.conn) (state g.A.Store c.granted_tag-found.new.conn) c.self.invariant c.granted_tag-found.result c.granted_tag-found.ensures.asks.same

pub returns-clause-reads : goal.returns-clause-reads
returns-clause-reads g c = reads g.A.Store (record { survives = g.met.A.Store.survives; shut = g.met.A.Store.shut_if_dirty; stays = g.met.A.Store.stays; settled = g.met.A.Store.settled }) c.self.view_is c.self.invariant c.granted_tag-found.ensures.asks c.counted.ensures.rest c.counted.ensures.same c.counted.ensures.failed c.counted.ensures.count

pub returns-clause-found : goal.returns-clause-found
returns-clause-found g c = λ clean.
    subst (λ k. IfOk c.counted.result (λ info. info ≡ granted_tag_in c.args.op.now k (sql_rows g.A.Store c.args.self.now).tags (sql_rows g.A.Store c.args.self.now).grants)) c.as_str.ensures
    (finds g.A.Store (λ rows info. info ≡ granted_tag_in c.args.op.now c.as_str.result.now rows.tags rows.grants) c.self.view_is c.self.invariant c.granted_tag-found.ensures.asks c.counted.ensures.rest c.counted.ensures.same clean)
