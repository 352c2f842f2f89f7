use Rattle.sql_rows.proofs.StayLaws.{stays_as}
use Rattle.sql_edits.proofs.Making.{asks_any}
use Rattle.sql_edits.proofs.moving.any_reading.Goals as goal

pub returns : goal.returns
returns g c = record {
  asks = asks_any c.find_any.ensures.shows c.first_row.ensures.ok c.first_row.ensures.row;
  stays = stays_as c.find_any.ensures.stays c.first_row.ensures.ok;
}
