use Rattle.sql_rows.proofs.Asking.{asks_first}
use Rattle.sql_lookups.proofs.reservations.find_reservation.Goals as goal

pub returns : goal.returns
returns g c = record { asks = asks_first c.find_one.ensures.shows c.first_row.ensures.ok c.first_row.ensures.row (λ db row is. is) }
