use Rattle.lines.proofs.rows.print_reading.Goals as goal

pub returns : goal.returns
returns c = (rw (c.as_str-station.ensures, c.in_ok-sampled.ensures) at c.in_ok-format.ensures.ok)
