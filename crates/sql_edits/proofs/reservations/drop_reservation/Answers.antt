use Rattle.std.proofs.Common.{refl, rules, SFits, w32}
use Rattle.sql_rows.proofs.HoldingTables.{drops_reservation}
use Rattle.sql_rows.proofs.StoreLemmas.{open_is_clean}
use Rattle.std.proofs.lemmas.Int.{to_z-of_z}
use Rattle.sql_rows.proofs.EditLaws.{edits_step}
use Rattle.sql_edits.proofs.reservations.drop_reservation.Goals as goal

pub returns : goal.returns
returns g c =
    let number : SFits w32 c.get.result = search rules in
    record {
      edits = edits_step (drops_reservation c.args.op.now c.args.station.now c.args.id) c.execute.result c.execute.ensures.runs c.execute.ensures.survives
          (rw (c.params-to_sql.ensures, c.params-to_sql-2.ensures, c.params-to_sql-3.ensures, to_z-of_z w32 c.get.result number, c.get.ensures) refl) (open_is_clean _ _ (g.met.S.Store.shut_if_dirty c.execute.new.self.store)) c.done.ensures.ok c.done.ensures.err;
    }
