use Rattle.std.proofs.Common.{◌≡◌, IfOk, None, subst}
use Rattle.hub_rows.specs.MeterValues.{meter_values_in}
use Rattle.sql_rows.specs.TypedTable.{rows_in}
use Rattle.sql_rows.specs.TypedTables.{meter_values}
use Rattle.sql_rows.proofs.Asking.{asks_of}
use Rattle.sql_lookups.proofs.PageLaws.{own_up}
use Rattle.sql_lookups.proofs.ValueLaws.{last_found}
use Rattle.sql_lookups.proofs.values.last_reading.Goals as goal

pub returns : goal.returns
returns g c = record {
  asks = asks_of c.in_ok-numbers.ensures.asks (λ db last.
      subst (λ l. IfOk c.last_in.result (λ n. n ≡ l)) (last_found (meter_values_in c.args.op.now c.args.station.now None (rows_in meter_values db)) (own_up c.args.op.now c.args.station.now None db) c.in_ok-numbers.numbers last) c.last_in.ensures);
}
