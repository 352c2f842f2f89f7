use Rattle.std.proofs.Common.{◌∙◌, Some, ap, filter, sym}
use Rattle.hub_rows.specs.MeterValues.{is_sent_with, meter_values_in}
use Rattle.sql_rows.specs.TypedTable.{rows_in}
use Rattle.sql_rows.specs.TypedTables.{meter_values}
use Rattle.sql_rows.proofs.Asking.{asks_of}
use Rattle.sql_lookups.proofs.PageLaws.{sent_of}
use Rattle.sql_lookups.proofs.station_values.meter_values.Goals as goal

pub returns : goal.returns
returns g c =
    let op = c.args.op.now in
    let station = c.args.station.now in
    let wanted = c.in-Some.wanted in
    record {
      asks = asks_of c.in_ok-all.ensures.asks (λ db is.
          c.sent_with.ensures ∙ ap (filter (λ m. is_sent_with (Some wanted) m.value.transaction)) is ∙ sent_of op station wanted (rows_in meter_values db)
          ∙ ap (λ n. meter_values_in op station n (rows_in meter_values db)) (sym c.in-Some.is));
    }
