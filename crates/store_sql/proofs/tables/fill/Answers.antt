use Rattle.std.proofs.Common.{◌∙◌}
use Rattle.sqlite.specs.Held.{state}
use Rattle.sql_tables.specs.Tables.{hub_schema}
use Rattle.sql_rows.specs.Opening.{IsInsideAs, IsInsideWith}
use Rattle.sql_rows.proofs.RaisingLemmas.{cut_values, from_is, inside_as, no_values, ours_fails}
use Rattle.sql_rows.proofs.StayLaws.{on_ok}
use Rattle.sql_rows.proofs.TxLemmas.{leaves_then}
use Rattle.sql_edits.specs.Moving.{IsUnmovedFrom}
use Rattle.store_sql.proofs.tables.fill.Goals as goal

pub returns-clause-makes : goal.returns-clause-makes
returns-clause-makes g c =
    let a = state g.S.Store c.args.tx.now.conn.now in
    let b = state g.S.Store c.reach.new.tx.conn.now in
    let d = state g.S.Store c.move_from.new.tx.conn.now in
    let e = state g.S.Store c.put_number.new.tx.conn.now in
    let made = c.in_ok-reach.ensures.makes in
    let moved = c.in_ok-move_from.ensures in
    let put = c.put_number.ensures.makes in
    record {
      same_reference = put.same_reference ∙ moved.stays.same_reference ∙ made.part.same_reference;
      leaves = λ may. leaves_then a b e made.part.leaves (leaves_then b d e (moved.stays.leaves (λ up. (made.makes may.0 may.1 up).mode)) (put.leaves tt));
      has = λ all early.
          let reached : IsInsideAs early.0 hub_schema b = made.makes early.0 early.3 in
          let unmoved : IsUnmovedFrom c.args.from b = λ up. (inside_as early.0 b early.1 reached up, λ earlier. no_values early.0 b.now.trees (reached up).kept (cut_values c.args.from earlier early.0 early.3.0)) in
          let it = (moved.makes.goes unmoved).ok in
          let with_rows : IsInsideWith all d = λ up. (it.within up, it.edit up ∙ from_is c.args.from early.0 b.now.trees (reached (it.leaves.was_open up)).kept ∙ early.2) in
          on_ok _ c.put_number.result c.told.result c.told.ensures.ok (put.has all with_rows);
      mode = on_ok _ c.put_number.result c.told.result c.told.ensures.ok put.mode;
      up = λ sure. on_ok _ c.put_number.result c.told.result c.told.ensures.ok (put.up sure);
    }

pub returns-in_err-reach-clause-makes : goal.returns-in_err-reach-clause-makes
returns-in_err-reach-clause-makes g c = ours_fails c.in_err-reach.ensures.makes.part.same_reference (λ may. c.in_err-reach.ensures.makes.part.leaves) c.from_residual.ensures.0

pub returns-in_err-move_from-clause-makes : goal.returns-in_err-move_from-clause-makes
returns-in_err-move_from-clause-makes g c =
    let a = state g.S.Store c.args.tx.now.conn.now in
    let b = state g.S.Store c.reach.new.tx.conn.now in
    let d = state g.S.Store c.move_from.new.tx.conn.now in
    let made = c.in_ok-reach.ensures.makes in
    let moved = c.in_err-move_from.ensures.stays in
    ours_fails (moved.same_reference ∙ made.part.same_reference) (λ may. leaves_then a b d made.part.leaves (moved.leaves (λ up. (made.makes may.0 may.1 up).mode))) c.from_residual-in_err-move_from.ensures.0
