use Rattle.std.proofs.Common.{[], ◌∷◌, ◌∙◌, ap, pos, rules, SFits, w64}
use Rattle.std.proofs.lemmas.Int.{to_z-of_z}
use Rattle.sqlite.specs.Values.{bound_value}
use Rattle.sqlite_value.specs.declared.value.Value.TheVariants.{Int, Text}
use Rattle.sql_rows.specs.Values.{text_or_null}
use Rattle.sql_rows.proofs.StoreLemmas.{open_is_clean}
use Rattle.sql_rows.proofs.ValueLaws.{optional}
use Rattle.sql_rows.proofs.EditLaws.{ran_as}
use Rattle.sql_edits.proofs.txs.run_ended.Goals as goal

pub returns : goal.returns
returns g c =
    let id = c.args.row.now.start.id in
    let stop = c.args.stop.now in
    let meter_start : SFits w64 id.meter_start = search rules in
    let at : SFits w64 id.at = search rules in
    let begun : SFits w64 c.seconds.result = search rules in
    let meter_stop : SFits w64 stop.meter_stop = search rules in
    let stop_at : SFits w64 stop.at = search rules in
    let ended : SFits w64 c.seconds-2.result = search rules in
    record {
      ran = ran_as c.execute.ensures.runs c.execute.ensures.survives
          (λ i. (ap bound_value c.params-to_sql.ensures ∙ ap Text c.as_str.ensures) i ∷
          (ap bound_value c.params-to_sql-2.ensures ∙ ap Text c.as_str-2.ensures) i ∷
          (ap bound_value c.params-to_sql-3.ensures) i ∷
          (ap bound_value c.params-to_sql-4.ensures ∙ ap (λ n. Int (pos n)) c.from.ensures) i ∷
          (ap bound_value c.params-to_sql-5.ensures ∙ ap Text c.as_str-3.ensures) i ∷
          (ap bound_value c.params-to_sql-6.ensures ∙ ap Int (to_z-of_z w64 id.meter_start meter_start)) i ∷
          (ap bound_value c.params-to_sql-7.ensures ∙ ap Int (to_z-of_z w64 id.at at)) i ∷
          (ap bound_value c.params-to_sql-8.ensures ∙ ap Text c.as_str-4.ensures) i ∷
          (ap bound_value c.params-to_sql-9.ensures) i ∷
          (ap bound_value c.params-to_sql-10.ensures ∙ ap Text c.name.ensures.value) i ∷
          (ap bound_value c.params-to_sql-11.ensures ∙ ap Int (to_z-of_z w64 c.seconds.result begun ∙ c.seconds.ensures)) i ∷
          (ap bound_value c.params-to_sql-12.ensures) i ∷
          (ap bound_value c.params-to_sql-13.ensures) i ∷
          (ap bound_value c.params-to_sql-14.ensures ∙ ap Int (to_z-of_z w64 stop.meter_stop meter_stop)) i ∷
          (ap bound_value c.params-to_sql-15.ensures ∙ ap Int (to_z-of_z w64 stop.at stop_at)) i ∷
          (ap bound_value c.params-to_sql-16.ensures ∙ ap Text c.name-2.ensures.value) i ∷
          (ap bound_value c.params-to_sql-17.ensures ∙ optional (λ t. t.now) c.lent.result ∙ ap text_or_null c.lent.ensures) i ∷
          (ap bound_value c.params-to_sql-18.ensures ∙ ap Int (to_z-of_z w64 c.seconds-2.result ended ∙ c.seconds-2.ensures)) i ∷ []) (open_is_clean _ _ (g.met.S.Store.shut_if_dirty c.execute.new.self.store));
    }
