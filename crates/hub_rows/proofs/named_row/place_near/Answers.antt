use Rattle.std.proofs.Common.{[], ◌∷◌, Ok, sym, ◌∙◌}
use Rattle.hub_rows.specs.Keyed.{pair_key}
use Rattle.hub_rows.proofs.PlaceLaws.{placed, equal-of}
use Rattle.hub_rows.proofs.NameLaws.{pair_agrees}
use Rattle.hub_rows.proofs.named_row.place_near.Goals as goal

pub returns-then-is_at : goal.returns-then-is_at
returns-then-is_at g c =
    let o = c.args.op.now in
    let n = c.args.name.now in
    let op = g.R.NamedRow.op in
    let name = g.R.NamedRow.name in
    let at = c.is_at.ensures c.if-is_at.true in
    placed (pair_key op name) (o ∷ n ∷ []) c.args.rows.now (Ok c.args.near) c.requires at.0 (λ d. equal-of _ (sym (pair_agrees op name o n _) ∙ at.1 d))
