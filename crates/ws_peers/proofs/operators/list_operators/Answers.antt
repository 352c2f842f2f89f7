use Rattle.std.proofs.Common.{arith, ◌∙◌, ap, sym, ◌≡◌, ◌++◌, ◌∷◌, [], if◌then◌else◌}
use Rattle.ws_peers.specs.Peers.{is_operator_peer}
use Rattle.ws_peers.specs.Routes.{is_operator}
use Rattle.ws_peers.proofs.PlaceLaws.{listed}
use Rattle.ws_peers.proofs.operators.list_operators.Goals as goal

pub loop-n-preserved : goal.loop-n-preserved
loop-n-preserved g c =
    let test : is_operator_peer c.index-peers-n.result ≡ c.is_operator.result = ap is_operator (sym c.route.ensures) ∙ sym c.is_operator.ensures in
    record {
      listed = listed is_operator_peer c.loop-n.places.items _ c.loop-n.n c.args.peers.now c.index-peers-n.result c.loop-n.invariant.listed c.loop-n-test.true
          (c.list_place.ensures.items ∙ ap (λ b. if b then c.loop-n.places.items ++ c.loop-n.n ∷ [] else c.loop-n.places.items) (sym test ∙ ap is_operator_peer c.index-peers-n.is));
      few = omega (arith, c.list_place.ensures.len, c.loop-n.invariant.few);
      room = omega (arith, c.list_place.ensures.capacity, c.loop-n.invariant.room);
    }
