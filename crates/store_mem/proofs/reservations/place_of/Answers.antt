use Rattle.std.proofs.Common.{[], ◌∷◌, rules}
use Rattle.std.proofs.lemmas.Fn.{always_returns_same}
use Rattle.hub_rows.specs.Keyed.{key_cmp}
use Rattle.hub_rows.specs.Rows.{reservation_key}
use Rattle.hub_rows.proofs.PlaceLaws.{placed}
use Rattle.store_mem.proofs.reservations.place_of.Goals as goal

pub returns : goal.returns
returns c =
    let k = c.args.op.now ∷ c.args.station.now ∷ (c.args.id ∷ []) ∷ [] in
    placed reservation_key k c.args.rows.now c.binary_search_by.result c.requires c.binary_search_by.ensures.bound
    (c.binary_search_by.ensures.position (λ r. key_cmp (reservation_key r) k) (always_returns_same _ _ _ (λ a r f' called. search rules)))
