use Rattle.std.proofs.Common.{ℕ, OnOk, subst, ◌≤◌, arith}
use Rattle.sqlite_catalog.specs.Change.{next_tree}
use Rattle.sqlite.specs.Held.{state}
use Rattle.sql_tables.specs.Tables.{second_tables}
use Rattle.sql_tables.proofs.Creates.{tx_owner_made, use_made, third_made, with_tx_owner}
use Rattle.sql_rows.specs.Opening.{IsInsideAs}
use Rattle.sql_rows.proofs.CreateLemmas.{part_then}
use Rattle.store_sql.proofs.tables.create_third.Goals as goal

itself : (t : ℕ) → t ≤ t
itself t = omega arith

pub returns : goal.returns
returns g c = record {
  makes = record {
    part = part_then c.then_alter-done.ensures.alters.part c.then_alter.ensures.alters.part;
    makes = λ rows begins.
        let later : next_tree second_tables ≤ next_tree with_tx_owner = omega arith in
        let s1 = c.then_alter-done.ensures.alters.table rows _ _ tx_owner_made (begins.0 _ (itself _)) begins.1 in
        let s2 = c.then_alter.ensures.alters.table rows _ _ use_made (begins.0 _ later) s1 in
        subst (λ s. OnOk c.then_alter.result (IsInsideAs rows s (state g.S.Store c.then_alter.new.tx.conn.now))) third_made s2;
  };
}
