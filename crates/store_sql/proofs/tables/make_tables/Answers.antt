use Rattle.std.proofs.Common.{◌≡◌, ◌<◌, IsTrue, OnOk, arith, rules, subst}
use Rattle.sqlite.specs.Held.{state}
use Rattle.sql_tables.specs.Opening.{our_form, schema_at}
use Rattle.sql_rows.specs.Opening.{trees_at}
use Rattle.sql_rows.proofs.StoreLemmas.{open_is_clean}
use Rattle.sql_rows.proofs.RaisingLemmas.{begun_as, cut_at, made_as}
use Rattle.store_sql.proofs.tables.make_tables.Goals as goal

pub returns : goal.returns
returns g c =
    let old = c.args.conn.now in
    let end = c.commit.new.self.0 in
    let tx = c.transaction-tx.result.conn.now in
    let mid = c.make_schema.new.tx.conn.now in
    let same : end ≡ c.conn-2-1.given.0 = search rules in
    let first : 0 < our_form = omega arith in
    let rows = trees_at 0 (state g.S.Store old).now.trees in
    record {
      made = subst (λ h. IsTrue (state g.S.Store h).is_open → OnOk c.commit.result ((state g.S.Store h).now.schema ≡ schema_at c.args.form)) same
          (made_as rows (schema_at c.args.form) (state g.S.Store mid) (state g.S.Store end) c.commit.result
          (c.in_ok-make_schema.ensures.makes.makes rows (cut_at 0 (state g.S.Store old).now.trees, begun_as g.S.Store old tx 0 first c.transaction-tx.ensures.begun c.requires.rested (λ up. c.requires.blank)))
          (open_is_clean _ _ (g.met.S.Store.shut_if_dirty end.store)) c.commit.ensures.ok);
    }
