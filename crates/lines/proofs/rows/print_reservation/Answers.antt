use Rattle.lines.proofs.rows.print_reservation.Goals as goal

pub returns : goal.returns
returns c = (rw (c.as_str-station.ensures, c.in_ok-id.ensures, c.in_ok-fields.ensures) at c.in_ok-format.ensures.ok)
