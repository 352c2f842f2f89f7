use Rattle.std.proofs.Common.{◌&&◌}
use Rattle.std.specs.Str.{bytes_eq}
use Rattle.sql_rows.specs.TypedTable.{rows_in}
use Rattle.sql_rows.specs.TypedTables.{grants}
use Rattle.hub_rows.specs.Grants.{is_grant}
use Rattle.sql_rows.proofs.Calls.{any_finds}
use Rattle.sql_rows.proofs.Asking.{asks_as}
use Rattle.sql_lookups.proofs.grants.has_grant.Goals as goal

pub returns : goal.returns
returns g c = record {
  asks = asks_as c.find_grant.ensures.asks c.is_found.ensures.ok (λ db. any_finds (λ r. bytes_eq r.op c.args.op.now && is_grant c.args.key.now c.args.to.now r) (rows_in grants db) c.find_grant.result c.is_found.result c.is_found.ensures.ok c.is_found.ensures.found);
}
