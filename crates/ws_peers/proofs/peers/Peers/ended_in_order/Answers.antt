use Rattle.std.proofs.Common.{◌∙◌, subst, sym}
use Rattle.std.proofs.lemmas.List.{map-id}
use Rattle.std.proofs.lemmas.List.Sorted.{IsNonDecreasingBy-from_sort}
use Rattle.std.proofs.lemmas.Slice.Zip.{AllZip-map}
use Rattle.ws_peers.specs.Lists.{peers}
use Rattle.ws_peers.specs.Peers.{FailsOnlyAt, is_open_peer}
use Rattle.ws_peers.proofs.EndedLaws.{fails_moved}
use Rattle.ws_peers.proofs.peers.Peers.ended_in_order.Goals as goal

pub returns-clause-ascending : goal.returns-clause-ascending
returns-clause-ascending g c = IsNonDecreasingBy-from_sort (λ place. place) c.sort_unstable.new.self.items c.sort_unstable.ensures.sorted

pub returns-clause-listed : goal.returns-clause-listed
returns-clause-listed g c =
    let all = c.args.self.now in
    fails_moved is_open_peer c.in_ok-places.places.items c.sort_unstable.new.self.items (peers all) c.sort_unstable.ensures.permutation
    (subst (λ places. FailsOnlyAt is_open_peer places (peers all)) (sym (AllZip-map (λ place. place) all.ended.items c.in_ok-places.places.items c.in_ok-places.ensures.cases.0 ∙ map-id all.ended.items)) all.listed)
