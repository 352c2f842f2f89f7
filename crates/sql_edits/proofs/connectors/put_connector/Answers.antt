use Rattle.std.proofs.Common.{refl, rules, SFits, w64}
use Rattle.sql_rows.proofs.StationTables.{puts_connector}
use Rattle.sql_rows.proofs.StoreLemmas.{open_is_clean}
use Rattle.std.proofs.lemmas.Int.{to_z-of_z}
use Rattle.hub_rows.specs.Changes.{connector_row}
use Rattle.sql_rows.proofs.ValueLaws.{optional}
use Rattle.sql_rows.proofs.EditLaws.{edits_step}
use Rattle.sql_edits.proofs.connectors.put_connector.Goals as goal

pub returns : goal.returns
returns g c =
    let at : SFits w64 c.args.report.now.at = search rules in
    record {
      edits = edits_step (puts_connector (connector_row c.args.op.now c.args.station.now c.args.connector c.args.report.now)) c.execute.result c.execute.ensures.runs c.execute.ensures.survives
          (rw (c.params-to_sql.ensures, c.params-to_sql-2.ensures, c.params-to_sql-3.ensures, c.params-to_sql-4.ensures, c.params-to_sql-5.ensures, c.params-to_sql-6.ensures, c.params-to_sql-7.ensures, c.params-to_sql-8.ensures, c.params-to_sql-9.ensures, c.from.ensures, to_z-of_z w64 c.args.report.now.at at, c.name.ensures.value, c.name-2.ensures.value, optional (λ t. t.now) c.lent.result, c.lent.ensures, optional (λ t. t.now) c.lent-2.result, c.lent-2.ensures, optional (λ t. t.now) c.lent-3.result, c.lent-3.ensures) refl) (open_is_clean _ _ (g.met.S.Store.shut_if_dirty c.execute.new.self.store)) c.done.ensures.ok c.done.ensures.err;
    }
