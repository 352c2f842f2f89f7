use Rattle.std.proofs.Common.{◌≡◌, ◌++◌, ◌-◌, None, Ok}
use Rattle.std.specs.Prelude.{⊤}
use Rattle.sqlite.specs.Held.{state}
use Rattle.hub_rows.specs.declared.forgettable.TheConstants.{MAX_READINGS}
use Rattle.hub_rows.specs.Forgetting.{count_readings}
use Rattle.hub_rows.specs.MeterValues.{meter_values_in}
use Rattle.hub_rows.specs.declared.store.StoreFault.{StoreFault}
use Rattle.sql_rows.specs.TypedTable.{rows_in}
use Rattle.sql_rows.specs.TypedTables.{meter_values}
use Rattle.sql_rows.specs.Kept.{AsksIn}
use Rattle.sql_lookups.proofs.PageLaws.{numbers_left, rest}
use Rattle.sql_lookups.proofs.first_values.first_values.Given as goal

abbrev pub invariant-values : goal.invariant-values
invariant-values g l = AsksIn {A = ⊤} {E = StoreFault} (state g.S.Store l.fn.conn) (state g.S.Store l.conn) (Ok tt) (λ db done.
    (l.values.items ++ rest l.next (meter_values_in l.op l.station None (rows_in meter_values db)) ≡ meter_values_in l.op l.station None (rows_in meter_values db))
    × (l.left ≡ MAX_READINGS - count_readings l.values.items))

abbrev pub decreases-values : goal.decreases-values
decreases-values g l = numbers_left l.next
