use Rattle.lines.proofs.rows.print_local_tag.Goals as goal

pub returns : goal.returns
returns c = (rw (c.in_ok-entry.ensures.text c.in_ok-entry_value.ensures.no_float, c.in_ok-entry_value.ensures.data) at c.in_ok-format.ensures.ok)
