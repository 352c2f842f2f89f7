use Rattle.std.proofs.Common.{rules, [], ◌∷◌}
use Rattle.std.proofs.lemmas.Fn.{always_returns_same}
use Rattle.hub_rows.specs.Keyed.{key_cmp, pair_key}
use Rattle.hub_rows.proofs.NameOrder.{same_text, other_text}
use Rattle.hub_rows.proofs.PlaceLaws.{placed}
use Rattle.hub_rows.proofs.named_row.place_of_name.Goals as goal

pub returns : goal.returns
returns g c =
    let key = pair_key g.R.NamedRow.op g.R.NamedRow.name in
    let k = c.args.op.now ∷ c.args.name.now ∷ [] in
    placed key k c.args.rows.now c.binary_search_by.result c.requires c.binary_search_by.ensures.bound
    (c.binary_search_by.ensures.position (λ r. key_cmp (key r) k) (always_returns_same _ _ _ (λ a r f' called. search (rules, same_text, other_text))))
