use Rattle.std.proofs.Common.{refl}
use Rattle.sql_rows.proofs.StationTables.{drops_reader}
use Rattle.sql_rows.proofs.StoreLemmas.{open_is_clean}
use Rattle.sql_rows.proofs.EditLaws.{edits_step}
use Rattle.sql_edits.proofs.dropping.drop_reader.Goals as goal

pub returns : goal.returns
returns g c = record {
  edits = edits_step (drops_reader c.args.op.now c.args.station.now) c.execute.result c.execute.ensures.runs c.execute.ensures.survives
      (rw (c.params-to_sql.ensures, c.params-to_sql-2.ensures) refl) (open_is_clean _ _ (g.met.S.Store.shut_if_dirty c.execute.new.self.store)) c.done.ensures.ok c.done.ensures.err;
}
