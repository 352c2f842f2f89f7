use Rattle.std.proofs.Common.{◌≡◌, [], IfOk, IsTrue, ap, filter, map, refl, rules, subst}
use Rattle.hub_rows.specs.Keyed.{put_all}
use Rattle.sqlite.specs.Held.{state}
use Rattle.sql_rows.specs.Kept.{IsInside, ShowsInside, is_count}
use Rattle.sql_rows.specs.Opening.{IsSpared}
use Rattle.sql_rows.specs.TypedTable.{cmp, rows_in}
use Rattle.sql_rows.specs.TypedTables.{metas}
use Rattle.sql_rows.proofs.MetaTable.{reads_count}
use Rattle.sql_rows.proofs.OpeningLemmas.{looked_spared}
use Rattle.sql_rows.proofs.StoreLemmas.{open_is_clean}
use Rattle.sql_rows.proofs.TxLemmas.{begun_inside}
use Rattle.sql_rows.proofs.TxReads.{asks_nothing, shows_inside}
use Rattle.store_sql.proofs.opening.count_rows.Goals as goal

pub returns-clause-spared : goal.returns-clause-spared
returns-clause-spared g c =
    let end = c.rollback.new.self.0 in
    let tx = c.transaction-tx.result.conn.now in
    let mid = c.query_all-rows.new.self.conn.now in
    let same : end ≡ c.conn-1.given.0 = search rules in
    subst (λ h. IsSpared (state g.S.Store c.args.conn.now) (state g.S.Store h)) same
    (looked_spared g.S.Store c.args.conn.now tx mid end c.transaction-tx.ensures.begun c.requires.settled c.requires.autocommit (open_is_clean _ _ (g.met.S.Store.shut_if_dirty end.store))
    (λ up. let sure = open_is_clean _ _ (g.met.S.Store.shut_if_dirty mid.store) up in
    asks_nothing _ _ (state g.S.Store tx) (state g.S.Store mid) (λ v. v.items) c.query_all-rows.result (ap (λ h. h.in_transaction) c.transaction-tx.ensures.begun) up (c.query_all-rows.ensures.ok sure) (c.query_all-rows.ensures.err sure))
    c.query_all-rows.ensures.survives c.rollback.ensures.undone c.rollback.ensures.ended c.rollback.ensures.survives)

pub returns-clause-shown : goal.returns-clause-shown
returns-clause-shown g c = λ serving.
    let old = c.args.conn.now in
    let end = c.rollback.new.self.0 in
    let tx = c.transaction-tx.result.conn.now in
    let mid = c.query_all-rows.new.self.conn.now in
    let clean = open_is_clean _ _ (g.met.S.Store.shut_if_dirty end.store) in
    let same : end ≡ c.conn-1.given.0 = search rules in
    let inside : IsInside (state g.S.Store tx) = begun_inside g.S.Store old tx c.transaction-tx.ensures.begun serving in
    let shows : ShowsInside g.S.Store (λ v. v.items) metas is_count c.transaction-tx.result c.query_all-rows.new.self c.query_all-rows.result =
    shows_inside reads_count c.query_all-rows.ensures.same_reference c.query_all-rows.ensures.ok c.query_all-rows.ensures.err c.query_all-rows.ensures.survives (rw c.params-to_sql.ensures refl) (open_is_clean _ _ (g.met.S.Store.shut_if_dirty mid.store)) in
    let begun : (state g.S.Store tx).now ≡ (state g.S.Store old).now = ap (λ h. (state g.S.Store h).now) c.transaction-tx.ensures.begun in
    subst (λ h. IsTrue (state g.S.Store h).is_open → IfOk c.query_all-rows.result (λ v. put_all (cmp metas) (map metas.read v.items) [] ≡ filter is_count (rows_in metas (state g.S.Store old).now.trees))) same
    (λ up. subst (λ d. IfOk c.query_all-rows.result (λ v. put_all (cmp metas) (map metas.read v.items) [] ≡ filter is_count (rows_in metas d.trees))) begun (shows.ok inside ((c.rollback.ensures.undone (clean up)).was_open up)))
