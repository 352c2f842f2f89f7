use Rattle.sql_rows.proofs.CreateLemmas.{part_then}
use Rattle.store_sql.proofs.tables.make_schema.Goals as goal

pub returns : goal.returns
returns g c = record {
  makes = record {
    part = part_then (part_then c.leave_tables.ensures.makes.part c.create_between.ensures.makes.part) c.create_indexes.ensures.makes.part;
    makes = λ rows begins. c.create_indexes.ensures.makes.makes rows (c.in_ok-create_between.ensures.makes.makes rows (begins.0, c.in_ok-leave_tables.ensures.makes.makes rows begins.1));
  };
}
