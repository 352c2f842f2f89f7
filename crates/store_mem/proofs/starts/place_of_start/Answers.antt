use Rattle.std.proofs.Common.{[], ◌∷◌, rules}
use Rattle.std.proofs.lemmas.Fn.{always_returns_same}
use Rattle.hub_rows.specs.Keyed.{key_cmp}
use Rattle.hub_rows.proofs.PlaceLaws.{placed}
use Rattle.store_mem.specs.Starts.{code, start_key}
use Rattle.store_mem.proofs.starts.place_of_start.Goals as goal

pub returns : goal.returns
returns c =
    let k = code c.args.start.now ∷ [] in
    placed start_key k c.args.rows.now c.binary_search_by.result c.requires c.binary_search_by.ensures.bound
    (c.binary_search_by.ensures.position (λ r. key_cmp (start_key r) k) (always_returns_same _ _ _ (λ a r f' called. search rules)))
