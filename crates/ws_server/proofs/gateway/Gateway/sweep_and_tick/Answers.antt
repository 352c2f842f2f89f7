use Rattle.ws_peers.specs.Lists as lists
use Rattle.turn_hub.specs.TurnHub.{setting}
use Rattle.hub_events.specs.declared.event.Event.TheVariants.{Tick}
use Rattle.ws_server.specs.Tells.{peers_of}
use Rattle.ws_server.specs.Turns.{Hands, SweepsAndTicks}
use Rattle.ws_server.proofs.StepLaws.{alone, changed}
use Rattle.ws_server.proofs.gateway.Gateway.sweep_and_tick.Goals as goal

pub returns-clause-takes : goal.returns-clause-takes
returns-clause-takes g c =
    let old = peers_of c.args.self.now in
    let new = peers_of c.hand.new.self in
    let r = c.hand.result in
    let hosts = (setting g.V.VendorHandler.view c.args.hub.now).is_hosted in
    changed _ _ _ _ _ _ (λ steps. SweepsAndTicks g.T.Write.contents hosts c.args.moment old new steps r)
    (λ steps change. alone lists.Swept (Hands g.T.Write.contents hosts (Tick c.args.moment)) old (lists.peers c.sweep.new.self) new steps r c.sweep.ensures change)
    c.hand.ensures.takes
