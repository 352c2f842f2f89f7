use Rattle.std.proofs.Common.{[], ◌∷◌, ◌∙◌, ap, rules, Some, SFits, w64}
use Rattle.std.proofs.lemmas.Int.{to_z-of_z}
use Rattle.sqlite.specs.Values.{bound_value}
use Rattle.sqlite_value.specs.declared.value.Value.TheVariants.{Int, Text}
use Rattle.sql_rows.specs.Values.{text_or_null}
use Rattle.sql_rows.proofs.StationTables.{puts_station}
use Rattle.sql_rows.proofs.StoreLemmas.{open_is_clean}
use Rattle.sql_rows.proofs.ValueLaws.{optional}
use Rattle.sql_rows.proofs.EditLaws.{edits_step}
use Rattle.sql_edits.proofs.stations.put_booted.Goals as goal

pub returns : goal.returns
returns g c =
    let registered = c.args.registered in
    let booted : SFits w64 c.seconds.result = search rules in
    record {
      edits = edits_step (puts_station (record { op = c.args.op.now; station = c.args.station.now; policy = registered.policy; interval = registered.interval; state = registered.state; boot = Some c.args.boot.now })) c.execute.result c.execute.ensures.runs c.execute.ensures.survives
          (λ i. (ap bound_value c.params-to_sql.ensures) i ∷
          (ap bound_value c.params-to_sql-2.ensures) i ∷
          (ap bound_value c.params-to_sql-3.ensures ∙ ap Text c.name.ensures.value) i ∷
          (ap bound_value c.params-to_sql-4.ensures) i ∷
          (ap bound_value c.params-to_sql-5.ensures ∙ ap Text c.name-2.ensures.value) i ∷
          (ap bound_value c.params-to_sql-6.ensures ∙ ap Int (to_z-of_z w64 c.seconds.result booted ∙ c.seconds.ensures)) i ∷
          (ap bound_value c.params-to_sql-7.ensures ∙ ap Text c.as_str.ensures ∙ ap (λ b. Text b.charge_point_model) c.as_ref-texts.ensures) i ∷
          (ap bound_value c.params-to_sql-8.ensures ∙ ap Text c.as_str-2.ensures ∙ ap (λ b. Text b.charge_point_vendor) c.as_ref-texts.ensures) i ∷
          (ap bound_value c.params-to_sql-9.ensures ∙ optional (λ t. t.now) c.lent.result ∙ ap text_or_null c.lent.ensures ∙ ap (λ b. text_or_null b.charge_box_serial_number) c.as_ref-texts.ensures) i ∷
          (ap bound_value c.params-to_sql-10.ensures ∙ optional (λ t. t.now) c.lent-2.result ∙ ap text_or_null c.lent-2.ensures ∙ ap (λ b. text_or_null b.charge_point_serial_number) c.as_ref-texts.ensures) i ∷
          (ap bound_value c.params-to_sql-11.ensures ∙ optional (λ t. t.now) c.lent-3.result ∙ ap text_or_null c.lent-3.ensures ∙ ap (λ b. text_or_null b.firmware_version) c.as_ref-texts.ensures) i ∷
          (ap bound_value c.params-to_sql-12.ensures ∙ optional (λ t. t.now) c.lent-4.result ∙ ap text_or_null c.lent-4.ensures ∙ ap (λ b. text_or_null b.iccid) c.as_ref-texts.ensures) i ∷
          (ap bound_value c.params-to_sql-13.ensures ∙ optional (λ t. t.now) c.lent-5.result ∙ ap text_or_null c.lent-5.ensures ∙ ap (λ b. text_or_null b.imsi) c.as_ref-texts.ensures) i ∷
          (ap bound_value c.params-to_sql-14.ensures ∙ optional (λ t. t.now) c.lent-6.result ∙ ap text_or_null c.lent-6.ensures ∙ ap (λ b. text_or_null b.meter_serial_number) c.as_ref-texts.ensures) i ∷
          (ap bound_value c.params-to_sql-15.ensures ∙ optional (λ t. t.now) c.lent-7.result ∙ ap text_or_null c.lent-7.ensures ∙ ap (λ b. text_or_null b.meter_type) c.as_ref-texts.ensures) i ∷ []) (open_is_clean _ _ (g.met.S.Store.shut_if_dirty c.execute.new.self.store)) c.done.ensures.ok c.done.ensures.err;
    }
