use Rattle.ws_peers.specs.Lists.{Front}
use Rattle.ws_peers.specs.Sends.{EndsWith}
use Rattle.ws_peers.proofs.peers.Peers.end_each.Given as goal

abbrev pub invariant-loop-peer : goal.invariant-loop-peer
invariant-loop-peer g l = Front (EndsWith g.T.Write.contents l.code l.cause) l.peer-index l.fn.self.items.items l.peer-items
