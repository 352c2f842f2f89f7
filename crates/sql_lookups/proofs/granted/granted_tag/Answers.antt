use Rattle.std.proofs.Common.{ap, ◌∙◌}
use Rattle.std.specs.List.{filter_map}
use Rattle.sql_rows.specs.TypedTables.{rows_of}
use Rattle.hub_rows.specs.Grants.{info_by}
use Rattle.hub_rows.specs.Keyed.{first}
use Rattle.sql_rows.proofs.Asking.{asks_also, asks_then}
use Rattle.sql_lookups.proofs.GrantedLaws.{granted_tag_is}
use Rattle.sql_lookups.proofs.granted.granted_tag.Goals as goal

pub returns : goal.returns
returns g c = record {
  asks = asks_also (asks_then c.in_ok-grants.ensures.asks c.first_info.ensures.asks) (λ db info is.
      is.1 ∙ ap (λ l. first (filter_map (info_by (rows_of db).tags) l)) (c.as_slice.ensures ∙ is.0) ∙ granted_tag_is c.args.op.now c.args.key.now (rows_of db).tags (rows_of db).grants);
}
