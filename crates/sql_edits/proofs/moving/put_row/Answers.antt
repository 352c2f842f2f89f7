use Rattle.std.proofs.Common.{refl, rules, SFits, w64}
use Rattle.std.proofs.lemmas.Int.{to_z-of_z}
use Rattle.sql_rows.proofs.TxTables.{adds_meter_value}
use Rattle.sql_rows.proofs.StayLaws.{stays_as, stays_ran}
use Rattle.sql_rows.proofs.StoreLemmas.{open_is_clean}
use Rattle.sql_rows.proofs.TxLemmas.{makes_step}
use Rattle.sql_edits.proofs.moving.put_row.Goals as goal

pub returns : goal.returns
returns g c =
    let row = c.args.row.now in
    let at : SFits w64 row.value.at = search rules in
    record {
      makes = makes_step (adds_meter_value row) c.execute.ensures.same_reference c.execute.ensures.runs c.execute.ensures.ended c.execute.ensures.survives
          (rw (c.params-to_sql.ensures, c.params-to_sql-2.ensures, c.params-to_sql-3.ensures, c.params-to_sql-4.ensures, c.params-to_sql-5.ensures, c.params-to_sql-6.ensures, c.params-to_sql-7.ensures, c.params-to_sql-8.ensures, c.as_str.ensures, c.as_str-2.ensures, c.from.ensures, to_z-of_z w64 row.value.at at, c.requires.count, c.requires.text) refl) (open_is_clean _ _ (g.met.S.Store.shut_if_dirty c.execute.new.self.conn.now.store)) c.done.ensures.ok c.done.ensures.err;
      stays = stays_as (stays_ran _ _ c.execute.ensures.same_reference c.execute.ensures.runs c.execute.ensures.ended c.execute.ensures.survives (open_is_clean _ _ (g.met.S.Store.shut_if_dirty c.execute.new.self.conn.now.store))) c.done.ensures.ok;
    }
