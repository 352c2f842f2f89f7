use Rattle.lines.proofs.rows.print_granted.Goals as goal

pub returns : goal.returns
returns c = (rw (c.as_str-owner.ensures, c.in_ok-text.ensures.text, c.as_str.ensures, c.in_ok-parent.ensures, c.mark-blocked.ensures, c.in_ok-expiry.ensures) at c.in_ok-format.ensures.ok)
