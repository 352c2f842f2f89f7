use Rattle.std.proofs.Common.{[], ◌∷◌, Some, ap, sym, ◌∙◌}
use Rattle.std.specs.Str.{bytes_eq}
use Rattle.hub_rows.specs.Rows.{tag_rest}
use Rattle.hub_rows.proofs.PlaceLaws.{find-found, find-gap}
use Rattle.store_mem.proofs.GroupLaws.{one_name}
use Rattle.store_mem.proofs.tags.row_of_key.Goals as goal

pub returns-in-Ok : goal.returns-in-Ok
returns-in-Ok c =
    let key = c.args.key.now in
    let at = c.in-Ok.ensures in
    ap Some (c.index-tags-place.is ∙ at.here c.index-tags-place.result)
    ∙ sym (find-found tag_rest (key ∷ []) (λ r. bytes_eq r.key key) (λ r. one_name r.key key) c.args.tags.now c.in-Ok.place at)

pub returns-in-Err : goal.returns-in-Err
returns-in-Err c =
    let key = c.args.key.now in
    sym (find-gap tag_rest (key ∷ []) (λ r. bytes_eq r.key key) (λ r. one_name r.key key) c.args.tags.now c.in-Err.field-0 c.in-Err.ensures)
