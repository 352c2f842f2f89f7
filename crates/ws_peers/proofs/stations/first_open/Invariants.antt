use Rattle.std.proofs.Common.{◌≡◌, ◌<◌, ℕ, false, get_or}
use Rattle.ws_peers.specs.Lists.{is_open_at}
use Rattle.ws_peers.specs.declared.peer.Peer.{Peer}
use Rattle.ws_peers.proofs.stations.first_open.Given as goal

abbrev pub invariant-loop-n : goal.invariant-loop-n
invariant-loop-n g l = (d : Peer g.row.T.Denot) (k : ℕ) → k < l.n → is_open_at l.op l.station (get_or l.peers k d) ≡ false
