use Rattle.std.proofs.Common.{refl, rules, SFits, w64}
use Rattle.sqlite.specs.Held.{state}
use Rattle.sql_rows.proofs.TxTables.{reads_same_starts}
use Rattle.sql_rows.proofs.Selects.{shows}
use Rattle.sql_rows.proofs.StoreLemmas.{open_is_clean}
use Rattle.std.proofs.lemmas.Int.{to_z-of_z}
use Rattle.sql_lookups.proofs.txs.list_same.Goals as goal

pub returns : goal.returns
returns g c =
    let new = c.query_all.new.self in
    let start = c.args.start.now in
    let meter_start : SFits w64 start.meter_start = search rules in
    let at : SFits w64 start.at = search rules in
    record {
      shows = λ serves. shows (reads_same_starts c.args.op.now c.args.station.now start) (λ v. v.items) (state g.S.Store c.args.conn.now) (state g.S.Store new) _ c.query_all.result c.query_all.ensures.ok c.query_all.ensures.err c.query_all.ensures.survives
          (rw (c.params-to_sql.ensures, c.params-to_sql-2.ensures, c.params-to_sql-3.ensures, c.params-to_sql-4.ensures, c.params-to_sql-5.ensures, c.params-to_sql-6.ensures, to_z-of_z w64 start.meter_start meter_start, to_z-of_z w64 start.at at, c.from.ensures, c.as_str.ensures) refl) serves (open_is_clean _ _ (g.met.S.Store.shut_if_dirty new.store));
    }
