use Rattle.std.proofs.Common.{◌≡◌, ◌++◌, ◌-◌, Ok}
use Rattle.std.specs.Prelude.{⊤}
use Rattle.sqlite.specs.Held.{state}
use Rattle.hub_rows.specs.MeterValues.{meter_values_in}
use Rattle.hub_rows.specs.declared.store.StoreFault.{StoreFault}
use Rattle.sql_rows.specs.TypedTable.{rows_in}
use Rattle.sql_rows.specs.TypedTables.{meter_values}
use Rattle.sql_rows.specs.Kept.{AsksIn}
use Rattle.sql_lookups.proofs.PageLaws.{numbers_left, rest}
use Rattle.sql_lookups.proofs.station_values.all_values.Given as goal

abbrev pub invariant-pages : goal.invariant-pages
invariant-pages g l = AsksIn {A = ⊤} {E = StoreFault} (state g.S.Store l.fn.conn) (state g.S.Store l.conn) (Ok tt) (λ db done.
    l.values.items ++ rest l.next (meter_values_in l.op l.station l.transaction (rows_in meter_values db)) ≡ meter_values_in l.op l.station l.transaction (rows_in meter_values db))

abbrev pub decreases-pages : goal.decreases-pages
decreases-pages g l = numbers_left l.next
