use Rattle.std.proofs.Common.{arith, ◌≡◌, ◌∙◌, ap, sym, length, ◌++◌, ◌∷◌, [], if◌then◌else◌}
use Rattle.ws_peers.specs.Routes.{is_operator}
use Rattle.ws_peers.specs.Peers.{is_open_peer, key_of_peer, is_operator_peer}
use Rattle.ws_peers.proofs.ListLaws.{pushed, keyed_pushed}
use Rattle.ws_peers.proofs.PlaceLaws.{places_bound}
use Rattle.ws_peers.proofs.EndedLaws.{fails_pushed}
use Rattle.ws_peers.proofs.peers.Peers.push.Goals as goal

pub list_place-requires : goal.list_place-requires
list_place-requires g c =
    let all = c.make_way.new.self in
    omega (arith, c.make_way.ensures.room.1, ap length all.places, all.operators.ok.0, all.items.ok.0, places_bound is_operator_peer 0 all.items.items)

pub invariant_of-self : goal.invariant_of-self
invariant_of-self g c =
    let all = c.make_way.new.self in
    let test : c.is_operator.result ≡ is_operator_peer c.new-peer.result = c.is_operator.ensures ∙ ap (λ p. is_operator p.route) (sym c.new-peer.ensures) in
    record {
      places = pushed all.operators.items c.list_place.new.places.items all.items.items c.push_reserved-2.new.items.items c.new-peer.result all.places c.push_reserved-2.ensures.items
          (c.list_place.ensures.items ∙ ap (λ n. if c.is_operator.result then all.operators.items ++ n ∷ [] else all.operators.items) (c.len.ensures ∙ all.items.ok.0) ∙ ap (λ b. if b then all.operators.items ++ length all.items.items ∷ [] else all.operators.items) test);
      room = omega (arith, c.make_way.ensures.room.1, c.list_place.ensures.capacity, c.push_reserved-2.ensures.len);
      keyed = keyed_pushed all.keys.items c.push_reserved.new.items.items c.key.result all.items.items c.push_reserved-2.new.items.items c.new-peer.result (c.key.ensures ∙ ap key_of_peer (sym c.new-peer.ensures)) all.keyed c.push_reserved.ensures.items c.push_reserved-2.ensures.items;
      ended_room = omega (arith, c.make_way.ensures.room.1, c.push_reserved-2.ensures.len);
      listed = fails_pushed is_open_peer all.ended.items all.items.items c.push_reserved-2.new.items.items c.new-peer.result c.push_reserved-2.ensures.items (ap is_open_peer c.new-peer.ensures) all.listed;
    }
