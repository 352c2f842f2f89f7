use Rattle.std.proofs.Common.{◌∙◌, sym}
use Rattle.hub_rows.proofs.PlaceLaws.{put-found, put-gap}
use Rattle.hub_rows.proofs.ListLaws.{set_here}
use Rattle.hub_rows.proofs.ordered.put_row.Goals as goal

pub returns-in-Ok-clause-ok : goal.returns-in-Ok-clause-ok
returns-in-Ok-clause-ok g c =
    let key = g.R.Keyed.key in
    let at = (rw c.deref.ensures.value at c.in-Ok.ensures) in
    set_here c.args.rows.now.items c.in-Ok.place c.args.row at.in_range ∙ sym (put-found key c.args.row c.args.rows.now.items c.in-Ok.place at)

pub returns-in_ok-insert-in-Err-clause-ok : goal.returns-in_ok-insert-in-Err-clause-ok
returns-in_ok-insert-in-Err-clause-ok g c =
    let key = g.R.Keyed.key in
    let gap = (rw c.deref.ensures.value at c.in-Err.ensures) in
    c.in_ok-insert-in-Err.ensures.items ∙ sym (put-gap key c.args.row c.args.rows.now.items c.in-Err.place gap)
