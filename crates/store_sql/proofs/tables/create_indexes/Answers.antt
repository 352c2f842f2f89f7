use Rattle.std.proofs.Common.{OnOk, subst, sym}
use Rattle.sqlite.specs.Held.{state}
use Rattle.sql_tables.specs.Tables.{hub_tx, hub_tx_is_open, hub_tx_start_at}
use Rattle.sql_tables.specs.Opening.{IsIndexCreate, by_transaction_at, open_columns_at, place_of_readings_at, readings_at, start_columns_at}
use Rattle.sql_tables.proofs.Creates.{grant_to_made, tx_in_use_made, tx_is_open_made, tx_start_at_made, reading_transaction_made, with_tx_in_use, with_tx_is_open, with_tx_start_at, all_made}
use Rattle.sql_rows.specs.Opening.{IsInsideAs}
use Rattle.sql_rows.proofs.CreateLemmas.{part_then}
use Rattle.store_sql.proofs.tables.create_indexes.Goals as goal

pub returns : goal.returns
returns g c = record {
  makes = record {
    part = part_then (part_then (part_then (part_then c.then_alter-done.ensures.alters.part c.then_alter-done-2.ensures.alters.part) c.then_alter-done-3.ensures.alters.part) c.then_alter-done-4.ensures.alters.part) c.then_alter.ensures.alters.part;
    makes = λ rows begins.
        let form = c.args.form in
        let made = c.requires.some in
        let open_made = subst (λ sql. IsIndexCreate sql (with_tx_in_use form) 5 hub_tx (hub_tx_is_open (open_columns_at form) 0)) (sym c.create_tx_is_open.ensures) (tx_is_open_made form made) in
        let start_made = subst (λ sql. IsIndexCreate sql (with_tx_is_open form) 5 hub_tx (hub_tx_start_at (start_columns_at form) 0)) (sym c.create_tx_start_at.ensures) (tx_start_at_made form made) in
        let by_transaction_made = subst (λ sql. IsIndexCreate sql (with_tx_start_at form) (place_of_readings_at form) (readings_at form) (by_transaction_at form 0)) (sym c.create_by_transaction.ensures) (reading_transaction_made form made) in
        let s1 = c.then_alter-done.ensures.alters.index rows _ _ _ _ (grant_to_made form made) begins in
        let s2 = c.then_alter-done-2.ensures.alters.index rows _ _ _ _ (tx_in_use_made form made) s1 in
        let s3 = c.then_alter-done-3.ensures.alters.index rows _ _ _ _ open_made s2 in
        let s4 = c.then_alter-done-4.ensures.alters.index rows _ _ _ _ start_made s3 in
        let s5 = c.then_alter.ensures.alters.index rows _ _ _ _ by_transaction_made s4 in
        subst (λ s. OnOk c.then_alter.result (IsInsideAs rows s (state g.S.Store c.then_alter.new.tx.conn.now))) (all_made form made) s5;
  };
}
