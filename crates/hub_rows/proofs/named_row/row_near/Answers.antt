use Rattle.std.proofs.Common.{[], ◌∷◌, Some, ap, sym, ◌∙◌}
use Rattle.hub_rows.specs.Keyed.{pair_key}
use Rattle.hub_rows.proofs.PlaceLaws.{find-found, find-gap}
use Rattle.hub_rows.proofs.NameLaws.{is_of, pair_agrees}
use Rattle.hub_rows.proofs.named_row.row_near.Goals as goal

pub returns-in-Ok : goal.returns-in-Ok
returns-in-Ok g c =
    let o = c.args.op.now in
    let n = c.args.name.now in
    let op = g.R.NamedRow.op in
    let name = g.R.NamedRow.name in
    let at = c.in-Ok.ensures in
    let row = c.index-rows-place.result in
    ap Some (c.index-rows-place.is ∙ at.here row)
    ∙ sym (find-found (pair_key op name) (o ∷ n ∷ []) (is_of op name o n) (pair_agrees op name o n) c.args.rows.now c.in-Ok.place at)

pub returns-in-Err : goal.returns-in-Err
returns-in-Err g c =
    let o = c.args.op.now in
    let n = c.args.name.now in
    let op = g.R.NamedRow.op in
    let name = g.R.NamedRow.name in
    sym (find-gap (pair_key op name) (o ∷ n ∷ []) (is_of op name o n) (pair_agrees op name o n) c.args.rows.now c.in-Err.field-0 c.in-Err.ensures)
