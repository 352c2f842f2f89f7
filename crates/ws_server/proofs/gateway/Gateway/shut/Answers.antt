use Rattle.std.proofs.Common.{codes, refl, subst}
use Rattle.ws_peers.specs.Lists.{peers, Shut}
use Rattle.ws_server.proofs.gateway.Gateway.shut.Goals as goal

pub returns-clause-closed : goal.returns-clause-closed
returns-clause-closed g c =
    (subst (λ old. Shut g.T.Write.contents (codes "subprotocol ocpp1.6 is missing") c.args.socket c.args.arrival.route old (peers c.push_closed.new.self)) c.in_ok-reserve.ensures.peers c.push_closed.ensures, refl)
