use Rattle.std.proofs.Common.{[], ◌∷◌, rules}
use Rattle.std.proofs.lemmas.Fn.{always_returns_same}
use Rattle.hub_rows.specs.Keyed.{key_cmp}
use Rattle.hub_rows.specs.Rows.{tag_rest}
use Rattle.hub_rows.proofs.PlaceLaws.{placed}
use Rattle.store_mem.proofs.GroupLaws.{name_order}
use Rattle.store_mem.proofs.tags.place_of_key.Goals as goal

pub returns : goal.returns
returns c =
    let k = c.args.key.now ∷ [] in
    placed tag_rest k c.args.tags.now c.binary_search_by.result c.requires c.binary_search_by.ensures.bound
    (c.binary_search_by.ensures.position (λ r. key_cmp (tag_rest r) k) (always_returns_same _ _ _ (λ a r f' called. search (rules, name_order))))
