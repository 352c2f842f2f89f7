use Rattle.std.proofs.Common.{[], ◌∷◌, ◌∙◌, ap, None}
use Rattle.sqlite.specs.Values.{bound_value}
use Rattle.sqlite_value.specs.declared.value.Value.TheVariants.{Text}
use Rattle.sql_rows.proofs.StationTables.{puts_station}
use Rattle.sql_rows.proofs.StoreLemmas.{open_is_clean}
use Rattle.sql_rows.proofs.EditLaws.{edits_step}
use Rattle.sql_edits.proofs.stations.put_unbooted.Goals as goal

pub returns : goal.returns
returns g c =
    let registered = c.args.registered in
    record {
      edits = edits_step (puts_station (record { op = c.args.op.now; station = c.args.station.now; policy = registered.policy; interval = registered.interval; state = registered.state; boot = None })) c.execute.result c.execute.ensures.runs c.execute.ensures.survives
          (λ i. (ap bound_value c.params-to_sql.ensures) i ∷
          (ap bound_value c.params-to_sql-2.ensures) i ∷
          (ap bound_value c.params-to_sql-3.ensures ∙ ap Text c.name.ensures.value) i ∷
          (ap bound_value c.params-to_sql-4.ensures) i ∷
          (ap bound_value c.params-to_sql-5.ensures ∙ ap Text c.name-2.ensures.value) i ∷
          (ap bound_value c.params-to_sql-6.ensures) i ∷
          (ap bound_value c.params-to_sql-7.ensures) i ∷
          (ap bound_value c.params-to_sql-8.ensures) i ∷
          (ap bound_value c.params-to_sql-9.ensures) i ∷
          (ap bound_value c.params-to_sql-10.ensures) i ∷
          (ap bound_value c.params-to_sql-11.ensures) i ∷
          (ap bound_value c.params-to_sql-12.ensures) i ∷
          (ap bound_value c.params-to_sql-13.ensures) i ∷
          (ap bound_value c.params-to_sql-14.ensures) i ∷
          (ap bound_value c.params-to_sql-15.ensures) i ∷ []) (open_is_clean _ _ (g.met.S.Store.shut_if_dirty c.execute.new.self.store)) c.done.ensures.ok c.done.ensures.err;
    }
