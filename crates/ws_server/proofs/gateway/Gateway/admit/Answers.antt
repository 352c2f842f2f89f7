use Rattle.std.proofs.Common.{List}
use Rattle.ws_server.specs.Admits.{Admits}
use Rattle.ws_server.specs.Steps.{Step}
use Rattle.ws_server.specs.Tells.{peers_of}
use Rattle.ws_server.proofs.AdmitLaws.{no_subprotocol}
use Rattle.ws_server.proofs.StepLaws.{stayed}
use Rattle.ws_server.proofs.gateway.Gateway.admit.Goals as goal

pub returns-in-Station-2-clause-takes : goal.returns-in-Station-2-clause-takes
returns-in-Station-2-clause-takes g c =
    let old = peers_of c.args.self.now in
    let new = peers_of c.shut.new.self in
    let r = c.shut.result in
    let Change : List Step → Type 0 = λ steps. Admits g.T.Write.contents c.args.socket c.args.moment c.args.arrival.route c.args.arrival.has_subprotocol old new steps r in
    stayed _ _ _ _ Change (no_subprotocol g.T.Write.contents c.args.socket c.args.moment c.args.arrival.route c.args.arrival.has_subprotocol old new r _ _ c.in-Station-2.is c.if-arrival.false c.shut.ensures.closed)
