use Rattle.std.proofs.Common.{refl, rules, SFits, w32, w64}
use Rattle.sql_rows.proofs.HoldingTables.{puts_reservation}
use Rattle.sql_rows.proofs.StoreLemmas.{open_is_clean}
use Rattle.std.proofs.lemmas.Int.{to_z-of_z}
use Rattle.hub_rows.specs.Changes.{reservation_row}
use Rattle.sql_rows.proofs.ValueLaws.{optional}
use Rattle.sql_rows.proofs.EditLaws.{edits_step}
use Rattle.sql_edits.proofs.reservations.put_reservation.Goals as goal

pub returns : goal.returns
returns g c =
    let number : SFits w32 c.get.result = search rules in
    let expiry : SFits w64 c.seconds.result = search rules in
    record {
      edits = edits_step (puts_reservation (reservation_row c.args.op.now c.args.station.now c.args.id c.args.reservation.now)) c.execute.result c.execute.ensures.runs c.execute.ensures.survives
          (rw (c.params-to_sql.ensures, c.params-to_sql-2.ensures, c.params-to_sql-3.ensures, c.params-to_sql-4.ensures, c.params-to_sql-5.ensures, c.params-to_sql-6.ensures, c.params-to_sql-7.ensures, to_z-of_z w32 c.get.result number, c.get.ensures, c.from.ensures, to_z-of_z w64 c.seconds.result expiry, c.seconds.ensures, c.as_str.ensures, optional (λ t. t.now) c.lent.result, c.lent.ensures) refl) (open_is_clean _ _ (g.met.S.Store.shut_if_dirty c.execute.new.self.store)) c.done.ensures.ok c.done.ensures.err;
    }
