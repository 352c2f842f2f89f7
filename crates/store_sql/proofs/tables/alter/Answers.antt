use Rattle.sql_rows.proofs.StoreLemmas.{open_is_clean}
use Rattle.sql_rows.proofs.CreateLemmas.{alters}
use Rattle.store_sql.proofs.tables.alter.Goals as goal

pub returns : goal.returns
returns g c = record {
  alters = alters c.execute.ensures.same_reference c.execute.ensures.runs c.execute.ensures.ended c.execute.ensures.survives (open_is_clean _ _ (g.met.S.Store.shut_if_dirty c.execute.new.self.conn.now.store));
}
