use Rattle.std.proofs.Common.{refl}
use Rattle.sql_rows.proofs.StoreLemmas.{open_is_clean}
use Rattle.sql_rows.proofs.ValueLaws.{optional}
use Rattle.sql_rows.proofs.EditLaws.{ran_as}
use Rattle.sql_edits.proofs.tags.run_row.Goals as goal

pub returns : goal.returns
returns g c = record {
  ran = ran_as c.execute.ensures.runs c.execute.ensures.survives
      (rw (c.params-to_sql.ensures, c.params-to_sql-2.ensures, c.params-to_sql-3.ensures, c.params-to_sql-4.ensures, c.params-to_sql-5.ensures, c.params-to_sql-6.ensures, c.params-to_sql-7.ensures, c.seconds_if_any.ensures, c.as_str.ensures, optional (λ t. t.now) c.args.parent_key, c.requires, optional (λ t. t.now) c.lent.result, c.lent.ensures) refl) (open_is_clean _ _ (g.met.S.Store.shut_if_dirty c.execute.new.self.store));
}
