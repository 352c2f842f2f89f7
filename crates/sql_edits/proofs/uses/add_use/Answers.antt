use Rattle.std.proofs.Common.{[], ◌∷◌, ◌∙◌, ap, rules, SFits, w64}
use Rattle.std.proofs.lemmas.Int.{to_z-of_z}
use Rattle.sqlite.specs.Values.{bound_value}
use Rattle.sqlite_value.specs.declared.value.Value.TheVariants.{Int, Text}
use Rattle.hub_rows.specs.Uses.{use_row}
use Rattle.sql_rows.proofs.TxTables.{adds_use}
use Rattle.sql_rows.proofs.StoreLemmas.{open_is_clean}
use Rattle.sql_rows.proofs.EditLaws.{edits_step}
use Rattle.sql_edits.proofs.uses.add_use.Goals as goal

pub returns : goal.returns
returns g c =
    let moment : SFits w64 c.seconds.result = search rules in
    let wh : SFits w64 c.energy_of.result = search rules in
    record {
      edits = edits_step (adds_use (use_row c.args.owner.now c.args.number c.args.row.now.op c.args.row.now c.args.stop.now)) c.execute.result c.execute.ensures.runs c.execute.ensures.survives
          (λ i. (ap bound_value c.params-to_sql.ensures) i ∷
          (ap bound_value c.params-to_sql-2.ensures) i ∷
          (ap bound_value c.params-to_sql-3.ensures ∙ ap Text c.as_str.ensures) i ∷
          (ap bound_value c.params-to_sql-4.ensures ∙ ap Text c.as_str-2.ensures) i ∷
          (ap bound_value c.params-to_sql-5.ensures ∙ ap Int (to_z-of_z w64 c.seconds.result moment ∙ c.seconds.ensures)) i ∷
          (ap bound_value c.params-to_sql-6.ensures ∙ ap Int (to_z-of_z w64 c.energy_of.result wh ∙ c.energy_of.ensures)) i ∷ []) (open_is_clean _ _ (g.met.S.Store.shut_if_dirty c.execute.new.self.store)) c.done.ensures.ok c.done.ensures.err;
    }
