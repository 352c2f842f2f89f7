use Rattle.std.proofs.Common.{refl}
use Rattle.sql_rows.specs.TypedTables.{entry_row}
use Rattle.sql_rows.proofs.HoldingTables.{adds_entry}
use Rattle.sql_rows.proofs.ValueLaws.{optional}
use Rattle.sql_rows.proofs.StoreLemmas.{open_is_clean}
use Rattle.sql_rows.proofs.EditLaws.{edits_step}
use Rattle.sql_edits.proofs.local_lists.put_entry_row.Goals as goal

pub returns : goal.returns
returns g c = record {
  edits = edits_step (adds_entry (entry_row c.args.op.now c.args.station.now c.args.entry.now)) c.execute.result c.execute.ensures.runs c.execute.ensures.survives
      (rw (c.params-to_sql.ensures, c.params-to_sql-2.ensures, c.params-to_sql-3.ensures, c.params-to_sql-4.ensures, c.params-to_sql-5.ensures, c.params-to_sql-6.ensures, c.params-to_sql-7.ensures, c.requires, c.seconds_if_any.ensures, c.as_str.ensures, c.name.ensures.value, optional (λ t. t.now) c.lent.result, c.lent.ensures) refl) (open_is_clean _ _ (g.met.S.Store.shut_if_dirty c.execute.new.self.store)) c.done.ensures.ok c.done.ensures.err;
}
