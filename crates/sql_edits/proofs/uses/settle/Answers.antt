use Rattle.std.proofs.Common.{◌≡◌, None, Option, Some, ap, subst, subst₂, sym, ◌∙◌}
use Rattle.std.specs.Option.{option_map}
use Rattle.sqlite_trees.specs.Tree.{Trees}
use Rattle.sqlite.specs.Held.{state}
use Rattle.hub_rows.specs.Keyed.{found as found_in}
use Rattle.hub_rows.specs.Uses.{is_owner_of, last_use_in, next_use, use_by, with_use}
use Rattle.hub_rows.specs.declared.tx_row.TxOwnerRow.{TxOwnerRow}
use Rattle.sql_rows.specs.Kept.{Edits}
use Rattle.sql_rows.specs.TypedTables.{rows_of}
use Rattle.sql_rows.proofs.EditLaws.{edits_also, edits_same, edits_then}
use Rattle.sql_edits.proofs.uses.settle.Goals as goal

pub returns-in-Some : goal.returns-in-Some
returns-in-Some g c =
    let row = c.args.row.now in
    let op = row.op in
    let stop = c.args.stop.now in
    let owner = c.in-Some.found.owner in
    let all = rows_of (state g.S.Store c.args.conn.now).now.trees in
    let adds = subst (λ a. Edits (λ rows. record rows { uses = with_use (next_use a (last_use_in a rows.uses) op row stop) rows.uses }) (state g.S.Store c.owner_row.new.conn) (state g.S.Store c.add_next.new.conn) c.add_next.result) c.as_str.ensures c.add_next.ensures.edits in
    record {
      edits = edits_then (edits_same c.in_ok-found.ensures.asks) adds
          (λ inside up same made. made
          ∙ ap (λ (db : Trees). record (rows_of db) { uses = with_use (next_use owner (last_use_in owner (rows_of db).uses) op row stop) (rows_of db).uses }) same
          ∙ ap (λ (o : Option TxOwnerRow). record all { uses = with_use (use_by op stop all.uses (option_map (λ r. r.owner) o) (Some row)) all.uses })
          (sym (subst₂ (λ a s. found_in (λ r. r.op) a (is_owner_of s row.number) all.tx_owners ≡ Some c.in-Some.found) c.as_str-op.ensures c.as_str-station.ensures (sym (c.in_ok-found.ensures.asks.found (λ u. (inside u).serves) up) ∙ c.in-Some.is))));
    }

pub returns-in-None : goal.returns-in-None
returns-in-None g c =
    let row = c.args.row.now in
    let all = rows_of (state g.S.Store c.args.conn.now).now.trees in
    record {
      edits = edits_also (edits_same c.in_ok-found.ensures.asks)
          (λ inside up same. ap rows_of same
          ∙ ap (λ (o : Option TxOwnerRow). record all { uses = with_use (use_by row.op c.args.stop.now all.uses (option_map (λ r. r.owner) o) (Some row)) all.uses })
          (sym (subst₂ (λ a s. found_in (λ r. r.op) a (is_owner_of s row.number) all.tx_owners ≡ None) c.as_str-op.ensures c.as_str-station.ensures (sym (c.in_ok-found.ensures.asks.found (λ u. (inside u).serves) up) ∙ c.in-None.is))));
    }
