use Rattle.std.proofs.Common.{rules, [], ◌∷◌, sym, subst}
use Rattle.std.specs.List.Sorted.{IsBinarySearchResult}
use Rattle.std.proofs.lemmas.Fn.{always_returns_same}
use Rattle.hub_rows.specs.Keyed.{key_cmp}
use Rattle.hub_rows.proofs.PlaceLaws.{placed}
use Rattle.store_mem.proofs.triples.place_of_row.Goals as goal

pub returns : goal.returns
returns g c =
    let key = g.R.Keyed.key in
    let group = g.R.GroupedRow.group in
    let rest = g.R.GroupedRow.rest in
    let k = c.args.name.now ∷ c.args.second.now ∷ c.args.third.now ∷ [] in
    let found = c.binary_search_by.result in
    placed key k c.args.rows.now found c.requires c.binary_search_by.ensures.bound
    (subst (λ order. IsBinarySearchResult order c.args.rows.now found) (λ i r. key_cmp (sym (g.met.R.GroupedRow.splits r) i) k)
    (c.binary_search_by.ensures.position (λ r. key_cmp (group r ∷ rest r) k) (always_returns_same _ _ _ (λ a r f' called. search rules))))
