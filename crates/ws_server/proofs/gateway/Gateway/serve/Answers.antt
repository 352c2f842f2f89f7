use Rattle.std.proofs.Common.{subst, Some, Ok, Err}
use Rattle.turn_hub.specs.TurnHub.{setting}
use Rattle.ws_peers.specs.Lists as lists
use Rattle.ws_peers.specs.Peers.{route_of}
use Rattle.ws_peers.specs.Sends.{Failed}
use Rattle.ws_server.specs.Events.{is_route_of_hosted}
use Rattle.ws_server.specs.Tells.{peers_of}
use Rattle.ws_server.specs.Turns.{HandsText, Serves, Means}
use Rattle.ws_server.proofs.StepLaws.{changed, at_with}
use Rattle.ws_server.proofs.gateway.Gateway.serve.Goals as goal

pub returns-clause-takes : goal.returns-clause-takes
returns-clause-takes g c =
    let hosts = (setting g.V.VendorHandler.view c.args.hub.now).is_hosted in
    let old = peers_of c.args.self.now in
    let mid = lists.peers c.take.new.self in
    let new = lists.peers c.fail.new.self in
    let fault = c.in-Err.fault in
    changed _ _ _ _ _ _ (λ steps. Serves g.T.Read.remaining g.T.Write.contents hosts c.args.moment c.args.n old new steps (Err fault))
    (λ steps change. record {
      text = Some c.in-Some.text;
      mid = mid;
      took = c.in-Some.ensures.took;
      handled = (
        at_with (Failed g.T.Write.contents) (λ p. Means (is_route_of_hosted hosts (route_of p)) fault) c.args.n mid new
            (subst (λ ps. lists.At (Failed g.T.Write.contents) c.args.n ps new) change.0 c.fail.ensures.failed) change.2,
        change.1,
      );
    })
    c.in-Err.ensures.takes

pub returns-in-Ok-clause-takes : goal.returns-in-Ok-clause-takes
returns-in-Ok-clause-takes g c =
    let hosts = (setting g.V.VendorHandler.view c.args.hub.now).is_hosted in
    let old = peers_of c.args.self.now in
    let mid = lists.peers c.take.new.self in
    let new = peers_of c.hand_text.new.self in
    changed _ _ _ _ _ _ (λ steps. Serves g.T.Read.remaining g.T.Write.contents hosts c.args.moment c.args.n old new steps (Ok tt))
    (λ steps change. record {
      text = Some c.in-Some.text;
      mid = mid;
      took = c.in-Some.ensures.took;
      handled = subst (λ text. HandsText g.T.Write.contents hosts c.args.moment c.args.n text mid new steps (Ok tt)) c.as_str.ensures change;
    })
    c.in-Ok.ensures.takes
