use Rattle.sqlite.specs.Held.{state}
use Rattle.sql_rows.proofs.StoreLemmas.{open_is_clean}
use Rattle.sql_rows.proofs.OpeningLemmas.{prepared_then}
use Rattle.store_sql.proofs.opening.prepare_rested.Goals as goal

pub returns-clause-prepares : goal.returns-clause-prepares
returns-clause-prepares g c =
    let new = c.raise-2.new.conn in
    prepared_then (state g.S.Store c.args.conn.now) (state g.S.Store c.look.new.conn) (state g.S.Store new) c.raise-2.result c.look.ensures.spared c.in_ok-form.ensures.up (open_is_clean _ _ (g.met.S.Store.shut_if_dirty new.store)) c.raise-2.ensures.prepares
