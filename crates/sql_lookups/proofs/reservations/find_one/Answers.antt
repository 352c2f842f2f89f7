use Rattle.std.proofs.Common.{refl, rules, SFits, w32}
use Rattle.sqlite.specs.Held.{state}
use Rattle.sql_rows.proofs.HoldingTables.{reads_reservation}
use Rattle.sql_rows.proofs.Selects.{shows}
use Rattle.sql_rows.proofs.StoreLemmas.{open_is_clean}
use Rattle.std.proofs.lemmas.Int.{to_z-of_z}
use Rattle.sql_lookups.proofs.reservations.find_one.Goals as goal

pub returns : goal.returns
returns g c =
    let new = c.query_all.new.self in
    let number : SFits w32 c.get-number.result = search rules in
    record {
      shows = λ serves. shows (reads_reservation c.args.op.now c.args.station.now c.args.id) (λ v. v.items) (state g.S.Store c.args.conn.now) (state g.S.Store new) _ c.query_all.result c.query_all.ensures.ok c.query_all.ensures.err c.query_all.ensures.survives
          (rw (c.params-to_sql.ensures, c.params-to_sql-2.ensures, c.params-to_sql-3.ensures, c.params-to_sql-4.ensures, to_z-of_z w32 c.get-number.result number, c.get-number.ensures) refl) serves (open_is_clean _ _ (g.met.S.Store.shut_if_dirty new.store));
    }
