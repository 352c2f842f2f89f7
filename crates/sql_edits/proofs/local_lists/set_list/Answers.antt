use Rattle.std.proofs.Common.{IsTrue, map, subst}
use Rattle.sqlite.specs.Held.{state}
use Rattle.hub_rows.specs.LocalLists.{AreEntries}
use Rattle.sql_rows.specs.Kept.{ArePutIn, InBatch, IsDropped, IsPutIn}
use Rattle.sql_rows.specs.TypedTables.{entries, entry_row, lists}
use Rattle.sql_rows.proofs.ListEdits.{list_set, of_list}
use Rattle.sql_rows.proofs.EditLaws.{edits_err, edits_fail, edits_if, edits_then}
use Rattle.sql_edits.proofs.local_lists.set_list.Goals as goal

pub returns : goal.returns
returns g c =
    let op = c.args.op.now in
    let station = c.args.station.now in
    let list = c.args.list.now in
    let old = (state g.S.Store c.args.conn.now).now.trees in
    let bare = (state g.S.Store c.drop_entries.new.conn).now.trees in
    let headed = (state g.S.Store c.put_head.new.conn).now.trees in
    let new = (state g.S.Store c.put_entries.new.conn).now.trees in
    let Drops = IsDropped entries (of_list op station) in
    let Puts = IsPutIn lists (record { op = op; station = station; version = list.version }) in
    let both = edits_then {Both = λ _ _. AreEntries list.entries × Drops old bare × Puts bare headed} (edits_if {Begins = λ s. IsTrue s.is_open → InBatch s × AreEntries list.entries} c.in_ok-drop_entries.ensures.edits (λ begins up. (begins up).0)) c.in_ok-put_head.ensures.edits
    (λ begins up drops puts. ((begins (c.in_ok-drop_entries.ensures.edits.leaves (λ u. (begins u).0) up).on.was_open).1, drops, puts)) in
    record {
      edits = edits_then both c.put_entries.ensures.edits
          (λ begins up parts filled. list_set op station list.version list.entries parts.0 old bare headed new parts.1 parts.2
          (subst (λ es. ArePutIn entries (map (entry_row op station) es) headed new) c.as_slice.ensures filled));
    }

pub returns-in_err-put_head : goal.returns-in_err-put_head
returns-in_err-put_head g c = record { edits = edits_fail (edits_if c.in_ok-drop_entries.ensures.edits (λ begins up. (begins up).0)) c.in_err-put_head.ensures.edits c.from_residual-in_err-put_head.ensures.0 }

pub returns-in_err-drop_entries : goal.returns-in_err-drop_entries
returns-in_err-drop_entries g c = record { edits = edits_err (edits_if c.in_err-drop_entries.ensures.edits (λ begins up. (begins up).0)) c.from_residual.ensures.0 }
