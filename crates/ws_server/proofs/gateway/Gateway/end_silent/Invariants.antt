use Rattle.ws_server.specs.Probes.{Silenced}
use Rattle.ws_server.specs.Tells.{peers_of}
use Rattle.ws_server.proofs.ProbeLaws.{Left}
use Rattle.ws_server.proofs.gateway.Gateway.end_silent.Given as goal

abbrev pub invariant-loop-place : goal.invariant-loop-place
invariant-loop-place g l = Left Silenced l.places (peers_of l.fn.self) l.place-index (peers_of l.self)
