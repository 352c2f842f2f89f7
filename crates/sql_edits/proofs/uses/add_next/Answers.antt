use Rattle.std.proofs.Common.{◌<◌, ◌≤◌, arith}
use Rattle.sqlite.specs.Held.{state}
use Rattle.hub_rows.specs.Transactions.{last_of_all}
use Rattle.sql_rows.proofs.RowEdits.{next_added, none_added}
use Rattle.sql_rows.proofs.EditLaws.{edits_also, edits_same, edits_then}
use Rattle.sql_edits.proofs.uses.add_next.Goals as goal

pub returns-then-last-ge-LAST_NUMBER : goal.returns-then-last-ge-LAST_NUMBER
returns-then-last-ge-LAST_NUMBER g c =
    let last = c.in_ok-last.last in
    let high : last_of_all ≤ last = omega (arith, c.if-last-ge-LAST_NUMBER.true) in
    let old = state g.S.Store c.args.conn.now in
    let new = state g.S.Store c.last_number.new.conn in
    record {
      edits = edits_also (edits_same c.in_ok-last.ensures.asks)
          (λ inside up same. none_added c.args.owner.now c.args.row.now.op c.args.row.now c.args.stop.now last old.now.trees (c.in_ok-last.ensures.asks.found (λ u. (inside u).serves) up) new.now.trees high same);
    }

pub returns : goal.returns
returns g c =
    let last = c.in_ok-last.last in
    let low : last < last_of_all = omega (arith, c.if-last-ge-LAST_NUMBER.false) in
    let old = state g.S.Store c.args.conn.now in
    let mid = state g.S.Store c.last_number.new.conn in
    let new = state g.S.Store c.add_use.new.conn in
    record {
      edits = edits_then (edits_same c.in_ok-last.ensures.asks) c.add_use.ensures.edits
          (λ inside up same made. next_added c.args.owner.now c.args.row.now.op c.args.row.now c.args.stop.now last old.now.trees (c.in_ok-last.ensures.asks.found (λ u. (inside u).serves) up) mid.now.trees new.now.trees low same made);
    }
