use Rattle.std.proofs.Common.{ap, sym, ◌∙◌}
use Rattle.lines.specs.RowLines.{row_line}
use Rattle.lines.proofs.rows.print_row.Goals as goal

pub returns-in_ok-format-in-LocalList : goal.returns-in_ok-format-in-LocalList
returns-in_ok-format-in-LocalList c = c.in_ok-format-in-LocalList.ensures.ok ∙ ap (row_line c.args.op.now) (sym c.in-LocalList.is)

pub returns-in_ok-format-in-Connection : goal.returns-in_ok-format-in-Connection
returns-in_ok-format-in-Connection c = c.in_ok-format-in-Connection.ensures.ok ∙ ap (row_line c.args.op.now) (sym c.in-Connection.is)

pub returns-in_ok-format-in-Forgotten : goal.returns-in_ok-format-in-Forgotten
returns-in_ok-format-in-Forgotten c = c.in_ok-format-in-Forgotten.ensures.ok ∙ ap (row_line c.args.op.now) (sym c.in-Forgotten.is)
