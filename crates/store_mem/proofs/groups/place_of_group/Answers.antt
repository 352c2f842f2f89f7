use Rattle.std.proofs.Common.{[], ◌∷◌, rules}
use Rattle.std.proofs.lemmas.Fn.{always_returns_same}
use Rattle.hub_rows.specs.Keyed.{key_cmp}
use Rattle.hub_rows.proofs.PlaceLaws.{placed}
use Rattle.store_mem.specs.Groups.{name_key}
use Rattle.store_mem.proofs.GroupLaws.{name_order}
use Rattle.store_mem.proofs.groups.place_of_group.Goals as goal

pub returns : goal.returns
returns g c =
    let k = c.args.name.now ∷ [] in
    placed name_key k c.args.groups.now c.binary_search_by.result c.requires c.binary_search_by.ensures.bound
    (c.binary_search_by.ensures.position (λ r. key_cmp (name_key r) k) (always_returns_same _ _ _ (λ a r f' called. search (rules, name_order))))
