use Rattle.std.proofs.Common.{[], ◌∷◌, rules}
use Rattle.std.proofs.lemmas.Fn.{always_returns_same}
use Rattle.hub_rows.specs.Keyed.{key_cmp, number_key}
use Rattle.hub_rows.proofs.PlaceLaws.{placed}
use Rattle.store_mem.proofs.station_rows.place_of_number.Goals as goal
use Rattle.hub_rows.proofs.NumberLaws.{number_order}

pub returns : goal.returns
returns g c =
    let number = g.R.NumberedRow.number in
    let k = (c.args.number ∷ []) ∷ [] in
    placed (number_key number) k c.args.rows.now c.binary_search_by.result c.requires c.binary_search_by.ensures.bound
    (c.binary_search_by.ensures.position (λ r. key_cmp (number_key number r) k) (always_returns_same _ _ _ (λ a r f' called. search (rules, number_order))))
