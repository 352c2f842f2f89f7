use Rattle.std.proofs.Common.{refl, rules, SFits, w64}
use Rattle.std.proofs.lemmas.Int.{to_z-of_z}
use Rattle.sql_rows.proofs.TxTables.{adds_meter_value}
use Rattle.sql_rows.proofs.StoreLemmas.{open_is_clean}
use Rattle.sql_rows.proofs.EditLaws.{edits_step}
use Rattle.sql_edits.proofs.values.put_row.Goals as goal

pub returns : goal.returns
returns g c =
    let at : SFits w64 c.args.value.now.at = search rules in
    record {
      edits = edits_step (adds_meter_value (record { op = c.args.op.now; station = c.args.station.now; first = c.args.first; value = c.args.value.now })) c.execute.result c.execute.ensures.runs c.execute.ensures.survives
          (rw (c.params-to_sql.ensures, c.params-to_sql-2.ensures, c.params-to_sql-3.ensures, c.params-to_sql-4.ensures, c.params-to_sql-5.ensures, c.params-to_sql-6.ensures, c.params-to_sql-7.ensures, c.params-to_sql-8.ensures, c.from.ensures, to_z-of_z w64 c.args.value.now.at at, c.requires.count, c.requires.text) refl) (open_is_clean _ _ (g.met.S.Store.shut_if_dirty c.execute.new.self.store)) c.done.ensures.ok c.done.ensures.err;
    }
