use Rattle.sql_edits.proofs.values.put_value.Goals as goal

pub returns : goal.returns
returns g c = record { edits = c.put_row.ensures.edits }
