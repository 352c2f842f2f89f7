use Rattle.std.proofs.Common.{Err, subst, sym}
use Rattle.turn_hub.specs.TurnHub.{setting}
use Rattle.ws_server.specs.Tells.{peers_of}
use Rattle.ws_server.specs.TurnServers.{ServesSome, ToFault}
use Rattle.ws_server.proofs.StepLaws.{changed}
use Rattle.ws_server.proofs.TurnLaws.{stage_fault}
use Rattle.ws_server.proofs.turn_server.TurnServer.serve.Goals as goal

pub returns-in-Err-clause-stage : goal.returns-in-Err-clause-stage
returns-in-Err-clause-stage g c =
    let C = ServesSome g.T.Read.remaining g.T.Write.contents (setting g.V.VendorHandler.view c.args.self.now.hub).is_hosted c.args.moment in
    let old = peers_of c.args.self.now.gateway in
    stage_fault g.S.Store.view g.V.VendorHandler.view g.W.Write.contents _ _ _ _ _ _ (ToFault C old (peers_of c.fail.new.self.gateway)) c.in-Err.ensures.counted c.in-Err.ensures.records
    (changed _ _ _ _ _ _ (ToFault C old (peers_of c.fail.new.self.gateway)) (λ steps change. subst (λ gateway. ToFault C old (peers_of gateway) steps) (sym c.fail.ensures.gateway) (Err c.in-Err.fault, change)) c.in-Err.ensures.takes)
    c.fail.ensures.holds
