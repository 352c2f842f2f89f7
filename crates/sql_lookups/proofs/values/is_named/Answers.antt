use Rattle.sql_rows.specs.TypedTable.{rows_in}
use Rattle.sql_rows.specs.TypedTables.{meter_values}
use Rattle.sql_rows.proofs.Asking.{asks_as}
use Rattle.sql_lookups.proofs.ValueLaws.{named_found}
use Rattle.sql_lookups.proofs.values.is_named.Goals as goal

pub returns : goal.returns
returns g c = record {
  asks = asks_as c.last_numbers_of_tx.ensures.asks c.is_found.ensures.ok (λ db last.
      named_found c.args.op.now c.args.station.now c.args.transaction (rows_in meter_values db) c.last_numbers_of_tx.result c.is_found.result c.is_found.ensures.ok c.is_found.ensures.found last);
}
