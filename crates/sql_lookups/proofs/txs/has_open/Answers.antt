use Rattle.std.proofs.Common.{◌&&◌}
use Rattle.std.specs.Str.{bytes_eq}
use Rattle.sql_rows.specs.TypedTable.{rows_in}
use Rattle.sql_rows.specs.TypedTables.{txs}
use Rattle.hub_rows.specs.Transactions.{is_open}
use Rattle.sql_rows.proofs.Calls.{any_finds}
use Rattle.sql_rows.proofs.Asking.{asks_as}
use Rattle.sql_lookups.proofs.txs.has_open.Goals as goal

pub returns : goal.returns
returns g c = record {
  asks = asks_as c.open_tx.ensures.asks c.is_found.ensures.ok (λ db. any_finds (λ r. bytes_eq r.op c.args.op.now && (bytes_eq r.station c.args.station.now && is_open r)) (rows_in txs db) c.open_tx.result c.is_found.result c.is_found.ensures.ok c.is_found.ensures.found);
}
