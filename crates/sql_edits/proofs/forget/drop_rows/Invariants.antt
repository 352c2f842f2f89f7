use Rattle.std.proofs.Common.{Ok, drop}
use Rattle.sqlite.specs.Held.{state}
use Rattle.hub_rows.specs.declared.store.StoreFault.{StoreFault}
use Rattle.sql_rows.specs.Kept.{EditsIn}
use Rattle.sql_edits.proofs.Forgotten.{AreBut}
use Rattle.sql_edits.proofs.forget.drop_rows.Given as goal

abbrev pub invariant-numbers : goal.invariant-numbers
invariant-numbers g l = EditsIn {A = Unit {0}} {E = StoreFault} (AreBut l.history l.op l.station (drop l.number-index l.numbers) l.numbers) (state g.S.Store l.fn.conn) (state g.S.Store l.conn) (Ok tt)
