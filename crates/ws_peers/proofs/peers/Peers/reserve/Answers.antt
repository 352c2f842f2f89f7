use Rattle.std.proofs.Common.{arith, ap, length}
use Rattle.ws_peers.specs.Peers.{is_operator_peer}
use Rattle.ws_peers.proofs.PlaceLaws.{places_bound}
use Rattle.ws_peers.proofs.peers.Peers.reserve.Goals as goal

pub overflow_sub-after : goal.overflow_sub-after
overflow_sub-after g c =
    omega (arith, c.len.ensures, c.len-after.ensures, c.reserve.ensures.len, ap length c.args.self.now.places, c.args.self.now.operators.ok.0, c.args.self.now.items.ok.0, places_bound is_operator_peer 0 c.args.self.now.items.items)
