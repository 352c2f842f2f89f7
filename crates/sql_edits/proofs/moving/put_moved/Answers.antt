use Rattle.sql_edits.proofs.moving.put_moved.Goals as goal

pub returns : goal.returns
returns g c = record { makes = c.put_row.ensures.makes; stays = c.put_row.ensures.stays }
