use Rattle.std.proofs.Common.{[], ◌∷◌, ◌==◌, Some, ap, sym, ◌∙◌}
use Rattle.hub_rows.proofs.ListLaws.{one_part}
use Rattle.hub_rows.proofs.PlaceLaws.{find-found, find-gap}
use Rattle.store_mem.proofs.station_rows.row_in.Goals as goal
use Rattle.hub_rows.specs.Keyed.{number_key}

pub returns-in-Ok : goal.returns-in-Ok
returns-in-Ok g c =
    let number = g.R.NumberedRow.number in
    let n = c.args.number in
    let at = c.in-Ok.ensures in
    ap Some (c.index-rows-place.is ∙ at.here c.index-rows-place.result)
    ∙ sym (find-found (number_key number) ((n ∷ []) ∷ []) (λ r. number r == n) (λ r. one_part (number r) n) c.args.rows.now c.in-Ok.place at)

pub returns-in-Err : goal.returns-in-Err
returns-in-Err g c =
    let number = g.R.NumberedRow.number in
    let n = c.args.number in
    sym (find-gap (number_key number) ((n ∷ []) ∷ []) (λ r. number r == n) (λ r. one_part (number r) n) c.args.rows.now c.in-Err.field-0 c.in-Err.ensures)
