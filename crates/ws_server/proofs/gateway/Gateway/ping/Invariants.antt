use Rattle.ws_peers.specs.Sends.{Pinged}
use Rattle.ws_server.specs.Tells.{peers_of}
use Rattle.ws_server.proofs.ProbeLaws.{Left}
use Rattle.ws_server.proofs.gateway.Gateway.ping.Given as goal

abbrev pub invariant-loop-place : goal.invariant-loop-place
invariant-loop-place g l = Left (Pinged g.T.Write.contents) l.places (peers_of l.fn.self) l.place-index (peers_of l.self)
