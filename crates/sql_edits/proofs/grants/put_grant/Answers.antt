use Rattle.std.proofs.Common.{refl}
use Rattle.sql_rows.proofs.TagTables.{puts_grant}
use Rattle.sql_rows.proofs.StoreLemmas.{open_is_clean}
use Rattle.hub_rows.specs.Changes.{grant_row}
use Rattle.sql_rows.proofs.EditLaws.{edits_step}
use Rattle.sql_edits.proofs.grants.put_grant.Goals as goal

pub returns : goal.returns
returns g c = record {
  edits = edits_step (puts_grant (grant_row c.args.op.now c.args.key.now c.args.to.now c.args.until.now)) c.execute.result c.execute.ensures.runs c.execute.ensures.survives
      (rw (c.params-to_sql.ensures, c.params-to_sql-2.ensures, c.params-to_sql-3.ensures, c.params-to_sql-4.ensures, c.seconds_if_any.ensures) refl) (open_is_clean _ _ (g.met.S.Store.shut_if_dirty c.execute.new.self.store)) c.done.ensures.ok c.done.ensures.err;
}
