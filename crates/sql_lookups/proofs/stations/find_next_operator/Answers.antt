use Rattle.std.proofs.Common.{refl}
use Rattle.sqlite.specs.Held.{state}
use Rattle.sql_rows.proofs.StationTables.{reads_next_operator}
use Rattle.sql_rows.proofs.Selects.{shows_text}
use Rattle.sql_rows.proofs.StoreLemmas.{open_is_clean}
use Rattle.sql_lookups.proofs.stations.find_next_operator.Goals as goal

pub returns : goal.returns
returns g c =
    let new = c.query_all.new.self in
    record {
      shows = λ serves. shows_text (reads_next_operator c.args.after.now) (λ v. v.items) (state g.S.Store c.args.conn.now) (state g.S.Store new) _ c.query_all.result c.query_all.ensures.ok c.query_all.ensures.err c.query_all.ensures.survives
          (rw c.params-to_sql.ensures refl) serves (open_is_clean _ _ (g.met.S.Store.shut_if_dirty new.store));
    }
