use Rattle.std.proofs.Common.{◌∙◌, ap, nat_le, take}
use Rattle.std.specs.Str.{bytes_eq}
use Rattle.hub_rows.proofs.NumberLaws.{those-those}
use Rattle.sql_tables.specs.declared.pages.TheConstants.{PAGE_ROWS}
use Rattle.sql_rows.specs.TypedTable.{rows_in}
use Rattle.sql_rows.specs.TypedTables.{txs}
use Rattle.sql_rows.proofs.Asking.{asks_page}
use Rattle.sql_lookups.proofs.txs.txs_page.Goals as goal

pub returns : goal.returns
returns g c = record {
  asks = asks_page c.find_page.ensures.shows c.listed.ensures.ok c.listed.ensures.rows (λ db page is.
      is ∙ ap (take PAGE_ROWS) (those-those (λ t. t.op) c.args.op.now (λ t. bytes_eq t.station c.args.station.now) (λ t. nat_le c.args.first t.number) (rows_in txs db)));
}
