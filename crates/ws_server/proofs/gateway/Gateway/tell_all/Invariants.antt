use Rattle.std.proofs.Common.{◌≡◌, List, drop, length}
use Rattle.ws_peers.specs.declared.peer.Peer.{Peer}
use Rattle.ws_server.specs.Tells.{peers_of, TellsAll}
use Rattle.ws_server.proofs.gateway.Gateway.tell_all.Given as goal

abbrev pub invariant-loop-out : goal.invariant-loop-out
invariant-loop-out g l = record {
  told : (end : List (Peer _)) → TellsAll g.T.Write.contents (drop l.out-index l.outs) (peers_of l.self) end → TellsAll g.T.Write.contents l.outs (peers_of l.fn.self) end;
  count : length (peers_of l.self) ≡ length (peers_of l.fn.self);
}
