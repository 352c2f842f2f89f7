use Rattle.std.proofs.Common.{None, ap, ◌∙◌}
use Rattle.turn_hub.specs.TurnHub.{setting}
use Rattle.ws_peers.specs.Peers.{route_of}
use Rattle.ws_server.specs.Tells.{peers_of}
use Rattle.ws_server.specs.Turns.{HandsText}
use Rattle.ws_server.proofs.OrderLaws.{order_of_text}
use Rattle.ws_server.proofs.StepLaws.{changed, answers-text, answers-between}
use Rattle.ws_server.proofs.gateway.Gateway.hand_text.Goals as goal

pub answer_between-requires-clause-order : goal.answer_between-requires-clause-order
answer_between-requires-clause-order g c = order_of_text c.route-route.result.now c.args.moment c.args.text.now c.order_text-order.result.now _ c.in_ok-event.ensures c.order_text-order.ensures

pub answer-requires-clause-order : goal.answer-requires-clause-order
answer-requires-clause-order g c = order_of_text c.route-route.result.now c.args.moment c.args.text.now c.order_text-order.result.now _ c.in_ok-event.ensures c.order_text-order.ensures

pub returns-in-Some-clause-takes : goal.returns-in-Some-clause-takes
returns-in-Some-clause-takes g c =
    let hosts = (setting g.V.VendorHandler.view c.args.hub.now).is_hosted in
    let old = peers_of c.args.self.now in
    let new = peers_of c.answer_between.new.self in
    let r = c.answer_between.result in
    changed _ _ _ _ _ _ (λ steps. HandsText g.T.Write.contents hosts c.args.moment c.args.n c.args.text.now old new steps r)
    (λ steps change. answers-between g.T.Write.contents hosts c.args.moment c.args.n c.args.text.now _ _ c.route-route.result.now c.in-Some.word.now _ old new steps r
    (λ d. c.route-route.ensures ∙ ap route_of (c.peer.ensures d)) c.in-Some.ensures c.in_ok-event.ensures c.in_ok-bounds-in-Some.ensures.0 c.in_ok-bounds-in-Some.ensures.1 change)
    c.answer_between.ensures.takes

pub returns-clause-takes : goal.returns-clause-takes
returns-clause-takes g c =
    let hosts = (setting g.V.VendorHandler.view c.args.hub.now).is_hosted in
    let old = peers_of c.args.self.now in
    let new = peers_of c.answer.new.self in
    let r = c.answer.result in
    changed _ _ _ _ _ _ (λ steps. HandsText g.T.Write.contents hosts c.args.moment c.args.n c.args.text.now old new steps r)
    (λ steps change. answers-text g.T.Write.contents hosts c.args.moment c.args.n c.args.text.now c.route-route.result.now None _ old new steps r
    (λ d. c.route-route.ensures ∙ ap route_of (c.peer.ensures d)) c.in-None.ensures c.in_ok-event.ensures change)
    c.answer.ensures.takes
