use Rattle.std.proofs.Common.{◌+◌, OnOk, subst, sym}
use Rattle.sqlite_catalog.specs.Change.{next_tree, without_index}
use Rattle.sqlite.specs.Held.{state}
use Rattle.sql_tables.specs.Opening.{IsIndexDrop, by_transaction_at, tables_at}
use Rattle.sql_tables.proofs.Creates.{grant_to_dropped, tx_in_use_dropped, tx_is_open_dropped, tx_start_at_dropped, reading_transaction_dropped, without_tx_start_at, by_transaction_tree, all_dropped}
use Rattle.sql_rows.specs.Opening.{IsInsideAs}
use Rattle.sql_rows.proofs.CreateLemmas.{part_then}
use Rattle.store_sql.proofs.tables.drop_indexes.Goals as goal

pub returns : goal.returns
returns g c = record {
  makes = record {
    part = part_then (part_then (part_then (part_then c.then_alter-done.ensures.alters.part c.then_alter-done-2.ensures.alters.part) c.then_alter-done-3.ensures.alters.part) c.then_alter-done-4.ensures.alters.part) c.then_alter.ensures.alters.part;
    makes = λ rows begun.
        let form = c.args.form in
        let made = c.requires.some in
        let by_transaction_dropped = subst (λ sql. IsIndexDrop sql (without_tx_start_at form) (by_transaction_at form (next_tree (tables_at form) + 4))) (sym c.drop_by_transaction.ensures) (reading_transaction_dropped form made) in
        let s1 = c.then_alter-done.ensures.alters.dropped rows _ _ (grant_to_dropped form made) begun in
        let s2 = c.then_alter-done-2.ensures.alters.dropped rows _ _ (tx_in_use_dropped form made) s1 in
        let s3 = c.then_alter-done-3.ensures.alters.dropped rows _ _ (tx_is_open_dropped form made) s2 in
        let s4 = c.then_alter-done-4.ensures.alters.dropped rows _ _ (tx_start_at_dropped form made) s3 in
        let s5 = subst (λ tree. OnOk c.then_alter.result (IsInsideAs rows (without_index (without_tx_start_at form) tree) (state g.S.Store c.then_alter.new.tx.conn.now))) (by_transaction_tree form (next_tree (tables_at form) + 4))
        (c.then_alter.ensures.alters.dropped rows _ _ by_transaction_dropped s4) in
        subst (λ s. OnOk c.then_alter.result (IsInsideAs rows s (state g.S.Store c.then_alter.new.tx.conn.now))) (all_dropped form made) s5;
  };
}
