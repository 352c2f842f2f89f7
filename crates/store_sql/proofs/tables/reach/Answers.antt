use Rattle.sql_rows.proofs.StayLaws.{on_ok}
use Rattle.store_sql.proofs.tables.reach.Goals as goal

pub returns-clause-makes : goal.returns-clause-makes
returns-clause-makes g c = record {
  part = c.make_schema.ensures.makes.part;
  makes = λ rows begins. on_ok _ c.make_schema.result c.told.result c.told.ensures.ok (c.make_schema.ensures.makes.makes rows begins);
}
