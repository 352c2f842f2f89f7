use Rattle.std.proofs.Common.{refl}
use Rattle.sqlite.specs.Held.{state}
use Rattle.sql_rows.proofs.TxTables.{next_of_meter_values}
use Rattle.sql_rows.proofs.Selects.{shows_page}
use Rattle.sql_rows.proofs.StoreLemmas.{open_is_clean}
use Rattle.sql_lookups.proofs.values.find_next.Goals as goal

pub returns : goal.returns
returns g c =
    let new = c.query_all.new.self in
    record {
      shows = λ serves. shows_page (next_of_meter_values c.args.op.now c.args.station.now c.args.first) (λ v. v.items) (state g.S.Store c.args.conn.now) (state g.S.Store new) _ c.query_all.result c.query_all.ensures.ok c.query_all.ensures.err c.query_all.ensures.survives
          (rw (c.params-to_sql.ensures, c.params-to_sql-2.ensures, c.params-to_sql-3.ensures) refl) serves (open_is_clean _ _ (g.met.S.Store.shut_if_dirty new.store));
    }
