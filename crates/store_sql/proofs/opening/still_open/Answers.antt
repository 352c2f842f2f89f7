use Rattle.sqlite.specs.Held.{state}
use Rattle.sql_rows.proofs.StoreLemmas.{open_is_clean}
use Rattle.sql_rows.proofs.OpeningLemmas.{compiled_spared}
use Rattle.store_sql.proofs.opening.still_open.Goals as goal

pub returns-clause-spared : goal.returns-clause-spared
returns-clause-spared g c =
    let new = c.prepare.new.self in
    compiled_spared _ _ (state g.S.Store c.args.conn.now) (state g.S.Store new) c.prepare.result c.prepare.ensures.ok c.prepare.ensures.err c.prepare.ensures.survives c.requires.settled c.requires.autocommit (c.prepare.ensures.mode c.requires.autocommit)
    (open_is_clean _ _ (g.met.S.Store.shut_if_dirty new.store))
