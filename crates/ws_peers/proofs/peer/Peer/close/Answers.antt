use Rattle.ws_peers.proofs.peer.Peer.close.Goals as goal

pub returns : goal.returns
returns g c = rw c.from_static-reason.ensures at c.close_with.ensures
