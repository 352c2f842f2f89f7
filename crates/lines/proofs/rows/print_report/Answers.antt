use Rattle.lines.proofs.rows.print_report.Goals as goal

pub returns : goal.returns
returns c = (rw (c.as_str-station.ensures, c.kind-kind.ensures, c.name-status.ensures, c.seconds-moment.ensures.value) at c.in_ok-format.ensures.ok)
