use Rattle.std.proofs.Common.{rules}
use Rattle.std.proofs.lemmas.Fn.{always_returns_same}
use Rattle.hub_rows.specs.Keyed.{key_cmp}
use Rattle.hub_rows.proofs.PlaceLaws.{placed}
use Rattle.hub_rows.proofs.ordered.place_of.Goals as goal

pub returns : goal.returns
returns g c =
    let key = g.R.Keyed.key in
    let k = key c.args.row.now in
    placed key k c.args.rows.now c.binary_search_by.result c.requires c.binary_search_by.ensures.bound (c.binary_search_by.ensures.position (λ r. key_cmp (key r) k) (always_returns_same _ _ _ (λ a r f' k. search rules)))
