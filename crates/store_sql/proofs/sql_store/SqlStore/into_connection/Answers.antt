use Rattle.std.proofs.Common.{subst, sym}
use Rattle.sqlite.specs.Held.{state}
use Rattle.store_sql.specs.Store.{IsCleanSql, SqlView}
use Rattle.store_sql.proofs.OursLaws.{serves_ours}
use Rattle.store_sql.proofs.sql_store.SqlStore.into_connection.Goals as goal

pub returns-clause-ours : goal.returns-clause-ours
returns-clause-ours g c = λ clean.
    let it : IsCleanSql g.A.Store (record { conn = c.self.inside.conn; failures = c.self.inside.failures; taken = c.self.inside.taken.value; changes = c.self.inside.changes; waiting = c.self.inside.waiting; lost = c.self.inside.lost }) = subst (IsCleanSql g.A.Store) (sym c.self.view_is) clean in
    serves_ours (state g.A.Store c.self.inside.conn) (c.self.invariant it.ours it.up).serves it.good
