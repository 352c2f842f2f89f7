use Rattle.std.proofs.Common.{◌≡◌, IfOk, IsTrue, ap, rules, subst, sym}
use Rattle.sqlite.specs.Effect.{IsDatabase}
use Rattle.sqlite.specs.Held.{state}
use Rattle.sql_tables.specs.Opening.{number_of}
use Rattle.sql_rows.specs.Opening.{IsSpared}
use Rattle.sql_rows.proofs.StoreLemmas.{open_is_clean}
use Rattle.sql_rows.proofs.OpeningLemmas.{looked_spared}
use Rattle.sql_rows.proofs.TxReads.{asks_nothing}
use Rattle.store_sql.specs.Known.{IsKnown, ShowsNumber}
use Rattle.store_sql.proofs.MetaLaws.{known_shows}
use Rattle.store_sql.proofs.opening.meta_rows.Goals as goal

pub returns-clause-spared : goal.returns-clause-spared
returns-clause-spared g c =
    let end = c.rollback.new.self.0 in
    let tx = c.transaction-tx.result.conn.now in
    let mid = c.query_all-rows.new.self.conn.now in
    let same : end ≡ c.conn-1.given.0 = search rules in
    subst (λ h. IsSpared (state g.S.Store c.args.conn.now) (state g.S.Store h)) same
    (looked_spared g.S.Store c.args.conn.now tx mid end c.transaction-tx.ensures.begun c.requires.rested.settled c.requires.autocommit (open_is_clean _ _ (g.met.S.Store.shut_if_dirty end.store))
    (λ up. let sure = open_is_clean _ _ (g.met.S.Store.shut_if_dirty mid.store) up in
    asks_nothing _ _ (state g.S.Store tx) (state g.S.Store mid) (λ v. v.items) c.query_all-rows.result (ap (λ h. h.in_transaction) c.transaction-tx.ensures.begun) up (c.query_all-rows.ensures.ok sure) (c.query_all-rows.ensures.err sure))
    c.query_all-rows.ensures.survives c.rollback.ensures.undone c.rollback.ensures.ended c.rollback.ensures.survives)

pub returns-clause-shown : goal.returns-clause-shown
returns-clause-shown g c = λ n known.
    let old = c.args.conn.now in
    let end = c.rollback.new.self.0 in
    let tx = c.transaction-tx.result.conn.now in
    let mid = c.query_all-rows.new.self.conn.now in
    let same : end ≡ c.conn-1.given.0 = search rules in
    let begun : (state g.S.Store tx).now ≡ (state g.S.Store old).now = ap (λ h. (state g.S.Store h).now) c.transaction-tx.ensures.begun in
    let sound : IsTrue (state g.S.Store tx).is_open → IsDatabase (state g.S.Store tx).now = subst (λ h. IsTrue (state g.S.Store h).is_open → IsDatabase (state g.S.Store h).now) (sym c.transaction-tx.ensures.begun) c.requires.rested.sound in
    subst (λ h. IsTrue (state g.S.Store h).is_open → IfOk c.query_all-rows.result (λ v. ShowsNumber (number_of n) v.items)) same
    (λ up.
    let back = c.rollback.ensures.undone (open_is_clean _ _ (g.met.S.Store.shut_if_dirty end.store) up) in
    known_shows n (λ v. v.items) (state g.S.Store tx) (state g.S.Store mid) c.query_all-rows.result (subst (IsKnown n) (sym begun) known) sound (c.query_all-rows.ensures.ok (open_is_clean _ _ (g.met.S.Store.shut_if_dirty mid.store) (back.was_open up))))
