use Rattle.std.proofs.Common.{[], ◌∷◌, ◌∙◌, ap, pos, rules, SFits, w64}
use Rattle.std.proofs.lemmas.Int.{to_z-of_z}
use Rattle.hub_rows.specs.Changes.{tx_row}
use Rattle.sqlite.specs.Values.{bound_value}
use Rattle.sqlite_value.specs.declared.value.Value.TheVariants.{Int, Text}
use Rattle.sql_rows.specs.Values.{flag}
use Rattle.sql_rows.proofs.TxTables.{adds_tx}
use Rattle.sql_rows.proofs.StoreLemmas.{open_is_clean}
use Rattle.sql_rows.proofs.EditLaws.{edits_step}
use Rattle.sql_edits.proofs.txs.put_started.Goals as goal

pub returns : goal.returns
returns g c =
    let id = c.args.start.now.id in
    let meter_start : SFits w64 id.meter_start = search rules in
    let at : SFits w64 id.at = search rules in
    let begun : SFits w64 c.seconds.result = search rules in
    record {
      edits = edits_step (adds_tx (tx_row c.args.op.now c.args.station.now c.args.number c.args.start.now)) c.execute.result c.execute.ensures.runs c.execute.ensures.survives
          (λ i. (ap bound_value c.params-to_sql.ensures) i ∷
          (ap bound_value c.params-to_sql-2.ensures) i ∷
          (ap bound_value c.params-to_sql-3.ensures) i ∷
          (ap bound_value c.params-to_sql-4.ensures ∙ ap (λ n. Int (pos n)) c.from.ensures) i ∷
          (ap bound_value c.params-to_sql-5.ensures ∙ ap Text c.as_str.ensures) i ∷
          (ap bound_value c.params-to_sql-6.ensures ∙ ap Int (to_z-of_z w64 id.meter_start meter_start)) i ∷
          (ap bound_value c.params-to_sql-7.ensures ∙ ap Int (to_z-of_z w64 id.at at)) i ∷
          (ap bound_value c.params-to_sql-8.ensures ∙ ap Text c.as_str-2.ensures) i ∷
          (ap bound_value c.params-to_sql-9.ensures) i ∷
          (ap bound_value c.params-to_sql-10.ensures ∙ ap Text c.name.ensures.value) i ∷
          (ap bound_value c.params-to_sql-11.ensures ∙ ap Int (to_z-of_z w64 c.seconds.result begun ∙ c.seconds.ensures)) i ∷
          (ap bound_value c.params-to_sql-12.ensures) i ∷
          (ap bound_value c.params-to_sql-13.ensures ∙ ap flag c.is_accepted.ensures) i ∷
          (ap bound_value c.params-to_sql-14.ensures) i ∷
          (ap bound_value c.params-to_sql-15.ensures) i ∷
          (ap bound_value c.params-to_sql-16.ensures) i ∷
          (ap bound_value c.params-to_sql-17.ensures) i ∷
          (ap bound_value c.params-to_sql-18.ensures) i ∷ []) (open_is_clean _ _ (g.met.S.Store.shut_if_dirty c.execute.new.self.store)) c.done.ensures.ok c.done.ensures.err;
    }
