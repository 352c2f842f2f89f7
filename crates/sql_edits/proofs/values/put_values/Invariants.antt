use Rattle.std.proofs.Common.{◌≡◌, ◌+◌, Ok, take}
use Rattle.sqlite.specs.Held.{state}
use Rattle.hub_rows.specs.MeterValues.{all_taken, meter_value_rows}
use Rattle.hub_rows.specs.declared.store.StoreFault.{StoreFault}
use Rattle.sql_rows.specs.Kept.{ArePutIn, EditsIn}
use Rattle.sql_rows.specs.TypedTables.{meter_values}
use Rattle.sql_edits.proofs.values.put_values.Given as goal

abbrev pub invariant-values : goal.invariant-values
invariant-values g l = (l.number ≡ l.first + all_taken (take l.value-index l.values))
    × EditsIn {A = Unit {0}} {E = StoreFault} (ArePutIn meter_values (meter_value_rows l.op l.station l.first (take l.value-index l.values))) (state g.S.Store l.fn.conn) (state g.S.Store l.conn) (Ok tt)
