use Rattle.std.proofs.Common.{arith, take}
use Rattle.pending_calls.proofs.Ranges.{before-place, from-found, from-gap}
use Rattle.pending_calls.proofs.own_rows.first_place.Goals as goal

pub returns-in-Ok : goal.returns-in-Ok
returns-in-Ok g c =
    let op = g.R.NamedRow.op in
    let name = g.R.NamedRow.name in
    let rows = c.args.rows.now in
    let at = c.in-Ok.ensures in
    record { in_range = omega (arith, at.in_range); before = before-place op name c.args.op.now (take c.in-Ok.place rows) at.before; from = from-found op name c.args.op.now rows c.in-Ok.place at }

pub returns-in-Ok-2 : goal.returns-in-Ok-2
returns-in-Ok-2 g c =
    let op = g.R.NamedRow.op in
    let name = g.R.NamedRow.name in
    let rows = c.args.rows.now in
    let gap = c.in-Ok.ensures in
    record { in_range = gap.in_range; before = before-place op name c.args.op.now (take c.in-Ok.place rows) gap.before; from = from-gap op name c.args.op.now rows c.in-Ok.place gap }
