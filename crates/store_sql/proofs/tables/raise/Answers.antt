use Rattle.std.proofs.Common.{◌≡◌, rules, subst}
use Rattle.sqlite.specs.Held.{state}
use Rattle.sql_rows.specs.Opening.{IsCutAs, Prepares, rows_at, trees_at}
use Rattle.sql_tables.specs.Opening.{schema_at}
use Rattle.sql_rows.proofs.OpeningLemmas.{prepares_as}
use Rattle.sql_rows.proofs.StoreLemmas.{open_is_clean}
use Rattle.sql_rows.proofs.RaisingLemmas.{begun_as, cut_at, drops_raise, commits_raise, rows_at_is}
use Rattle.store_sql.proofs.tables.raise.Goals as goal

pub returns-clause-prepares : goal.returns-clause-prepares
returns-clause-prepares g c =
    let old = c.args.conn.now in
    let from = c.args.from in
    let end = c.commit.new.self.0 in
    let tx = c.transaction-tx.result.conn.now in
    let mid = c.fill.new.tx.conn.now in
    let same : end ≡ c.conn-2-1.given.0 = search rules in
    let before = (state g.S.Store old).now.trees in
    let cut : IsCutAs from (schema_at from) (trees_at from before) (state g.S.Store tx) = (cut_at from before, begun_as g.S.Store old tx from c.requires.earlier c.transaction-tx.ensures.begun c.requires.rested c.requires.was) in
    subst (λ h. Prepares (state g.S.Store old) (state g.S.Store h) c.told.result) same
    (prepares_as (state g.S.Store old) (state g.S.Store end) c.commit.result c.told.result
    (commits_raise g.S.Store old tx mid end from c.requires.earlier c.transaction-tx.ensures.begun c.requires.rested c.requires.was (open_is_clean _ _ (g.met.S.Store.shut_if_dirty end.store)) (λ up db. g.met.S.Store.settled old.store db up) (c.fill.ensures.makes.leaves (trees_at from before, cut))
    c.commit.result (λ are_typed. c.in_ok-fill.ensures.makes.has (rows_at from before) (trees_at from before, are_typed, rows_at_is from c.requires.earlier before, cut)) c.in_ok-fill.ensures.makes.mode c.in_ok-fill.ensures.makes.up
    c.commit.ensures.ok c.commit.ensures.err c.commit.ensures.survives (λ up db. g.met.S.Store.settled end.store db up))
    c.told.ensures.ok c.told.ensures.err)

pub returns-in_err-fill-clause-prepares : goal.returns-in_err-fill-clause-prepares
returns-in_err-fill-clause-prepares g c =
    let old = c.args.conn.now in
    let from = c.args.from in
    let end = c.drop-tx.new.self.0 in
    let tx = c.transaction-tx.result.conn.now in
    let same : end ≡ c.conn-1.given.0 = search rules in
    let before = (state g.S.Store old).now.trees in
    let cut : IsCutAs from (schema_at from) (trees_at from before) (state g.S.Store tx) = (cut_at from before, begun_as g.S.Store old tx from c.requires.earlier c.transaction-tx.ensures.begun c.requires.rested c.requires.was) in
    subst (λ h. Prepares (state g.S.Store old) (state g.S.Store h) c.from_residual.result) same
    (drops_raise g.S.Store old tx c.fill.new.tx.conn.now end from c.requires.earlier c.transaction-tx.ensures.begun c.requires.rested c.requires.was (open_is_clean _ _ (g.met.S.Store.shut_if_dirty end.store)) (λ up db. g.met.S.Store.settled old.store db up) (c.fill.ensures.makes.leaves (trees_at from before, cut))
    c.from_residual.result c.from_residual.ensures.0 c.drop-tx.ensures.undone c.drop-tx.ensures.survives)
