use Rattle.std.proofs.Common.{ap, ◌∙◌}
use Rattle.std.specs.List.{filter_map}
use Rattle.sql_rows.specs.TypedTables.{rows_of}
use Rattle.hub_rows.specs.Grants.{entry_by}
use Rattle.sql_rows.proofs.Asking.{asks_also, asks_then}
use Rattle.sql_lookups.proofs.GrantedLaws.{granted_is}
use Rattle.sql_lookups.proofs.granted.granted.Goals as goal

pub returns : goal.returns
returns g c = record {
  asks = asks_also (asks_then c.in_ok-grants.ensures.asks c.entries.ensures.asks) (λ db list is.
      is.1 ∙ ap (filter_map (entry_by (rows_of db).tags)) (c.as_slice.ensures ∙ is.0) ∙ granted_is c.args.op.now (rows_of db).tags (rows_of db).grants);
}
