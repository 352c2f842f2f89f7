use Rattle.std.proofs.Common.{rules, ◌≡◌, ◌+◌, ◌++◌, [], ◌∷◌, map, subst, take}
use Rattle.std.proofs.lemmas.List.{take_all, take_more}
use Rattle.sqlite.specs.Held.{state}
use Rattle.sql_rows.specs.Kept.{ArePutIn}
use Rattle.sql_rows.specs.TypedTables.{entries, entry_row}
use Rattle.sql_rows.proofs.ListEdits.{entries_more}
use Rattle.sql_rows.proofs.EditLaws.{edits_also, edits_fail, edits_then}
use Rattle.sql_edits.proofs.local_lists.put_entries.Goals as goal

pub entries-preserved : goal.entries-preserved
entries-preserved g c =
    let all = c.args.list.now in
    let k = c.entries.entry-index in
    let x = c.entry-item.result in
    let old = (state g.S.Store c.args.conn.now).now.trees in
    let mid = (state g.S.Store c.entries.conn).now.trees in
    let new = (state g.S.Store c.put_entry.new.conn).now.trees in
    let more : take (k + 1) all ≡ take k all ++ x ∷ [] = search (rules, take_more) in
    edits_then c.entries.invariant c.in_ok-put_entry.ensures.edits (λ inside up so_far one. entries_more c.args.op.now c.args.station.now (take k all) (take (k + 1) all) x more old mid new so_far one)

pub returns : goal.returns
returns g c =
    let whole : take c.entries.entry-index c.args.list.now ≡ c.args.list.now = search (rules, take_all) in
    record {
      edits = edits_also c.entries.invariant
          (λ inside up put. subst (λ es. ArePutIn entries (map (entry_row c.args.op.now c.args.station.now) es) (state g.S.Store c.args.conn.now).now.trees (state g.S.Store c.entries.conn).now.trees) whole put);
    }

pub returns-in_err-put_entry : goal.returns-in_err-put_entry
returns-in_err-put_entry g c = record { edits = edits_fail c.entries.invariant c.in_err-put_entry.ensures.edits c.from_residual.ensures.0 }
