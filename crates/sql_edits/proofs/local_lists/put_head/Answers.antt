use Rattle.std.proofs.Common.{refl}
use Rattle.sql_rows.proofs.HoldingTables.{puts_list}
use Rattle.sql_rows.proofs.StoreLemmas.{open_is_clean}
use Rattle.sql_rows.proofs.EditLaws.{edits_step}
use Rattle.sql_edits.proofs.local_lists.put_head.Goals as goal

pub returns : goal.returns
returns g c = record {
  edits = edits_step (puts_list (record { op = c.args.op.now; station = c.args.station.now; version = c.args.version })) c.execute.result c.execute.ensures.runs c.execute.ensures.survives
      (rw (c.params-to_sql.ensures, c.params-to_sql-2.ensures, c.params-to_sql-3.ensures) refl) (open_is_clean _ _ (g.met.S.Store.shut_if_dirty c.execute.new.self.store)) c.done.ensures.ok c.done.ensures.err;
}
