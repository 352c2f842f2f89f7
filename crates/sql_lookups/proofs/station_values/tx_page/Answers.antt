use Rattle.std.proofs.Common.{◌∙◌, ◌&&◌, Some, nat_le, sym}
use Rattle.std.proofs.Math.Bool.{and_assoc}
use Rattle.std.specs.Str.{bytes_eq}
use Rattle.hub_rows.specs.MeterValues.{is_sent_with}
use Rattle.sql_tables.specs.declared.pages.TheConstants.{PAGE_ROWS}
use Rattle.sql_rows.specs.TypedTable.{rows_in}
use Rattle.sql_rows.specs.TypedTables.{meter_values}
use Rattle.sql_rows.proofs.Asking.{asks_page}
use Rattle.sql_lookups.proofs.PageLaws.{values_are}
use Rattle.sql_lookups.proofs.station_values.tx_page.Goals as goal

pub returns : goal.returns
returns g c =
    let station = c.args.station.now in
    let first = c.args.first in
    let sent = is_sent_with (Some c.args.transaction) in
    record {
      asks = asks_page c.find_tx_page.ensures.shows c.listed.ensures.ok c.listed.ensures.rows (λ db page is.
          is ∙ values_are c.args.op.now station (Some c.args.transaction) PAGE_ROWS first (λ m. bytes_eq m.station station && (sent m.value.transaction && nat_le first m.first))
          (λ m. sym (and_assoc (bytes_eq m.station station) (sent m.value.transaction) (nat_le first m.first))) (rows_in meter_values db));
    }
