use Rattle.std.proofs.Common.{refl}
use Rattle.sql_rows.proofs.StayLaws.{stays_as, stays_ran}
use Rattle.sql_rows.proofs.StoreLemmas.{open_is_clean}
use Rattle.sql_rows.proofs.TxLemmas.{makes_step}
use Rattle.sql_rows.proofs.TxTables.{drops_readings}
use Rattle.sql_edits.proofs.moving.drop_reading.Goals as goal

pub returns : goal.returns
returns g c =
    let clean = open_is_clean _ _ (g.met.S.Store.shut_if_dirty c.execute.new.self.conn.now.store) in
    let ran = c.execute.ensures in
    record {
      makes = makes_step (drops_readings c.args.op.now c.args.station.now c.args.number c.args.number) ran.same_reference ran.runs ran.ended ran.survives
          (rw (c.params-to_sql.ensures, c.params-to_sql-2.ensures, c.params-to_sql-3.ensures, c.params-to_sql-4.ensures) refl) clean c.done.ensures.ok c.done.ensures.err;
      stays = stays_as (stays_ran _ _ ran.same_reference ran.runs ran.ended ran.survives clean) c.done.ensures.ok;
    }
