use Rattle.std.proofs.Common.{Ok}
use Rattle.hub_rows.specs.declared.store.StoreFault.{StoreFault}
use Rattle.sql_rows.specs.Kept.{MakesIf}
use Rattle.sql_rows.specs.Opening.{StaysInside}
use Rattle.sql_edits.specs.Moving.{AreMoving, IsUnmoved}
use Rattle.sql_edits.proofs.moving.move_readings.Given as goal

abbrev pub invariant-readings : goal.invariant-readings
invariant-readings g l = MakesIf {A = Unit {0}} {E = StoreFault} g.S.Store IsUnmoved AreMoving l.initial.tx l.tx (Ok tt) × StaysInside {A = Unit {0}} {E = StoreFault} g.S.Store l.initial.tx l.tx (Ok tt)
