use Rattle.std.proofs.Common.{◌≡◌, [], refl, subst, sym}
use Rattle.sqlite_trees.specs.Tree.{Trees}
use Rattle.sqlite.specs.Held.{state}
use Rattle.sqlite_rules.specs.Lists.{Has}
use Rattle.hub_rows.specs.declared.store.StoreFault.{StoreFault}
use Rattle.sql_rows.specs.TypedTable.{rows_in}
use Rattle.sql_rows.specs.TypedTables.{readings}
use Rattle.sql_rows.proofs.StayLaws.{stays_as, stays_self, stays_then}
use Rattle.sql_edits.specs.Moving.{AreMoving, IsAnyRow}
use Rattle.sql_edits.proofs.Making.{makes_also, makes_fails, makes_if, makes_none, makes_same_in, makes_then}
use Rattle.sql_edits.proofs.MovingLaws.{all_moved, more_moved, one_moved}
use Rattle.sql_edits.proofs.moving.move_readings.Goals as goal

pub readings-init : goal.readings-init
readings-init g c = (makes_if (makes_none {Edit = AreMoving} (record { all = refl; others = refl })) (λ s begins up. (begins up).0), stays_self)

pub returns-in_err-row-clause-makes : goal.returns-in_err-row-clause-makes
returns-in_err-row-clause-makes g c = makes_fails c.readings.invariant.0 (makes_same_in c.in_err-row.ensures.asks) c.from_residual.ensures.0

pub returns-in-None-clause-makes : goal.returns-in-None-clause-makes
returns-in-None-clause-makes g c =
    let old = (state g.S.Store c.args.tx.now.conn.now).now.trees in
    let mid = (state g.S.Store c.readings.tx.conn.now).now.trees in
    let new = (state g.S.Store c.any_reading.new.tx.conn.now).now.trees in
    let asks = c.in_ok-row.ensures.asks in
    let whole = makes_then {Both = AreMoving} c.readings.invariant.0 (makes_same_in asks) (λ begins up moved same. subst (AreMoving old) (sym same) moved) in
    makes_also whole (λ begins up moved.
    let inside = (c.readings.invariant.0.goes begins).ok.within in
    let none : rows_in readings mid ≡ [] = subst (IsAnyRow (rows_in readings mid)) c.in-None.is (asks.found inside up) in
    let same : new ≡ mid = (asks.goes inside).ok.edit up in
    all_moved old new (begins ((whole.goes begins).ok.leaves.was_open up)).1 moved (subst (λ (db : Trees). rows_in readings db ≡ []) (sym same) none))

pub returns-in-None-clause-stays : goal.returns-in-None-clause-stays
returns-in-None-clause-stays g c = stays_as (stays_then c.readings.invariant.1 c.in_ok-row.ensures.stays) refl

pub returns-in_err-move_reading-in-Some-clause-makes : goal.returns-in_err-move_reading-in-Some-clause-makes
returns-in_err-move_reading-in-Some-clause-makes g c =
    let old = (state g.S.Store c.args.tx.now.conn.now).now.trees in
    let asked = makes_then {Both = AreMoving} c.readings.invariant.0 (makes_same_in c.in_ok-row.ensures.asks) (λ begins up moved same. subst (AreMoving old) (sym same) moved) in
    makes_fails asked c.in_err-move_reading-in-Some.ensures.makes c.from_residual-in_err-move_reading-in-Some.ensures.0

pub readings-preserved : goal.readings-preserved
readings-preserved g c =
    let row = c.in-Some.row in
    let old = (state g.S.Store c.args.tx.now.conn.now).now.trees in
    let mid = (state g.S.Store c.readings.tx.conn.now).now.trees in
    let asked = (state g.S.Store c.any_reading.new.tx.conn.now).now.trees in
    let new = (state g.S.Store c.move_reading.new.tx.conn.now).now.trees in
    let asks = c.in_ok-row.ensures.asks in
    let none_lost = makes_then {Both = AreMoving} c.readings.invariant.0 (makes_same_in asks) (λ begins up moved same. subst (AreMoving old) (sym same) moved) in
    let found = makes_also {B = Unit {0}} {F = StoreFault} {Two = λ a b. AreMoving a b × Has (rows_in readings b) row} {y = tt} none_lost (λ begins up moved.
    let inside = (c.readings.invariant.0.goes begins).ok.within in
    let there : Has (rows_in readings mid) row = subst (IsAnyRow (rows_in readings mid)) c.in-Some.is (asks.found inside up) in
    (moved, subst (λ (db : Trees). Has (rows_in readings db) row) (sym ((asks.goes inside).ok.edit up)) there)) in (
      makes_then found c.in_ok-move_reading-in-Some.ensures.makes (λ begins up so_far one. more_moved old asked new so_far.0 (one_moved row asked new so_far.1 one)),
      stays_then (stays_then c.readings.invariant.1 c.in_ok-row.ensures.stays) c.in_ok-move_reading-in-Some.ensures.stays,
    )
