use Rattle.std.proofs.Common.{refl}
use Rattle.sqlite.specs.Held.{state}
use Rattle.sql_rows.proofs.TxTables.{reads_tx_owner}
use Rattle.sql_rows.proofs.StoreLemmas.{open_is_clean}
use Rattle.sql_rows.proofs.Selects.{shows}
use Rattle.sql_edits.proofs.uses.find_owner.Goals as goal

pub returns : goal.returns
returns g c = record {
  shows = λ serves. shows (reads_tx_owner c.args.op.now c.args.station.now c.args.number) (λ v. v.items) (state g.S.Store c.args.conn.now) (state g.S.Store c.query_all.new.self) _ c.query_all.result c.query_all.ensures.ok c.query_all.ensures.err c.query_all.ensures.survives
      (rw (c.params-to_sql.ensures, c.params-to_sql-2.ensures, c.params-to_sql-3.ensures) refl) serves (open_is_clean _ _ (g.met.S.Store.shut_if_dirty c.query_all.new.self.store));
}
