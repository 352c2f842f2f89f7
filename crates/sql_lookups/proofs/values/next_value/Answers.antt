use Rattle.std.proofs.Common.{◌∙◌, ◌&&◌, None, ap, nat_le, sym}
use Rattle.std.specs.Str.{bytes_eq}
use Rattle.hub_rows.proofs.ListLaws.{and-true}
use Rattle.sql_rows.specs.TypedTable.{rows_in}
use Rattle.sql_rows.specs.TypedTables.{meter_values}
use Rattle.sql_rows.proofs.Asking.{asks_page}
use Rattle.sql_lookups.proofs.PageLaws.{values_are}
use Rattle.sql_lookups.proofs.values.next_value.Goals as goal

pub returns : goal.returns
returns g c =
    let station = c.args.station.now in
    let first = c.args.first in
    record {
      asks = asks_page c.find_next.ensures.shows c.listed.ensures.ok c.listed.ensures.rows (λ db page is.
          is ∙ values_are c.args.op.now station None 1 first (λ m. bytes_eq m.station station && nat_le first m.first) (λ m. ap (λ b. b && nat_le first m.first) (sym (and-true (bytes_eq m.station station)))) (rows_in meter_values db));
    }
