use Rattle.std.proofs.Common.{refl, rules, SFits, w64}
use Rattle.sql_rows.proofs.StationTables.{puts_report}
use Rattle.sql_rows.proofs.StoreLemmas.{open_is_clean}
use Rattle.std.proofs.lemmas.Int.{to_z-of_z}
use Rattle.hub_rows.specs.Changes.{report_row}
use Rattle.sql_rows.proofs.EditLaws.{edits_step}
use Rattle.sql_edits.proofs.reports.put_report.Goals as goal

pub returns : goal.returns
returns g c =
    let moment : SFits w64 c.seconds.result = search rules in
    record {
      edits = edits_step (puts_report (report_row c.args.op.now c.args.station.now c.args.status c.args.moment)) c.execute.result c.execute.ensures.runs c.execute.ensures.survives
          (rw (c.params-to_sql.ensures, c.params-to_sql-2.ensures, c.params-to_sql-3.ensures, c.params-to_sql-4.ensures, c.params-to_sql-5.ensures, c.kind.ensures, c.name.ensures, to_z-of_z w64 c.seconds.result moment, c.seconds.ensures) refl) (open_is_clean _ _ (g.met.S.Store.shut_if_dirty c.execute.new.self.store)) c.done.ensures.ok c.done.ensures.err;
    }
