use Rattle.std.proofs.Common.{ℕ, OnOk, subst, ◌≤◌, arith}
use Rattle.sqlite.specs.Held.{state}
use Rattle.sql_tables.proofs.Creates.{meta_made, station_made, connector_made, tag_made, grant_made, tx_made, reading_made, reservation_made, list_made, list_entry_made, first_made}
use Rattle.sql_rows.specs.Opening.{IsInsideAs}
use Rattle.sql_rows.proofs.CreateLemmas.{part_then}
use Rattle.store_sql.proofs.tables.create_first.Goals as goal

least : (t : ℕ) → 0 ≤ t
least t = omega arith

pub returns : goal.returns
returns g c = record {
  makes = record {
    part = part_then (part_then (part_then (part_then (part_then (part_then (part_then (part_then (part_then c.then_alter-done.ensures.alters.part c.then_alter-done-2.ensures.alters.part) c.then_alter-done-3.ensures.alters.part) c.then_alter-done-4.ensures.alters.part) c.then_alter-done-5.ensures.alters.part) c.then_alter-done-6.ensures.alters.part) c.then_alter-done-7.ensures.alters.part) c.then_alter-done-8.ensures.alters.part) c.then_alter-done-9.ensures.alters.part) c.then_alter.ensures.alters.part;
    makes = λ rows begins.
        let s1 = c.then_alter-done.ensures.alters.table rows _ _ meta_made (begins.0 _ (least _)) begins.1 in
        let s2 = c.then_alter-done-2.ensures.alters.table rows _ _ station_made (begins.0 _ (least _)) s1 in
        let s3 = c.then_alter-done-3.ensures.alters.table rows _ _ connector_made (begins.0 _ (least _)) s2 in
        let s4 = c.then_alter-done-4.ensures.alters.table rows _ _ tag_made (begins.0 _ (least _)) s3 in
        let s5 = c.then_alter-done-5.ensures.alters.table rows _ _ grant_made (begins.0 _ (least _)) s4 in
        let s6 = c.then_alter-done-6.ensures.alters.table rows _ _ tx_made (begins.0 _ (least _)) s5 in
        let s7 = c.then_alter-done-7.ensures.alters.table rows _ _ reading_made (begins.0 _ (least _)) s6 in
        let s8 = c.then_alter-done-8.ensures.alters.table rows _ _ reservation_made (begins.0 _ (least _)) s7 in
        let s9 = c.then_alter-done-9.ensures.alters.table rows _ _ list_made (begins.0 _ (least _)) s8 in
        let s10 = c.then_alter.ensures.alters.table rows _ _ list_entry_made (begins.0 _ (least _)) s9 in
        subst (λ s. OnOk c.then_alter.result (IsInsideAs rows s (state g.S.Store c.then_alter.new.tx.conn.now))) first_made s10;
  };
}
