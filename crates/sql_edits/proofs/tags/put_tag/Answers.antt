use Rattle.sql_edits.proofs.tags.put_tag.Goals as goal

pub returns : goal.returns
returns g c = record { edits = c.put_row.ensures.edits }
