use Rattle.sql_edits.proofs.local_lists.put_entry.Goals as goal

pub returns : goal.returns
returns g c = record { edits = c.put_entry_row.ensures.edits }
