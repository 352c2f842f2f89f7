use Rattle.std.proofs.Common.{◌≡◌, [], Err, Ok, Some, refl, rules, string_bytes, subst, sym}
use Rattle.std.specs.Option.{IfSome}
use Rattle.turn_hub.specs.TurnHub.{setting}
use Rattle.ws_peers.specs.Lists.{At}
use Rattle.ws_server.specs.Tells.{SentWhileOpen, TellsAll, peers_of}
use Rattle.ws_server.specs.Turns.{HandsOrRefuses, Between}
use Rattle.ws_server.specs.Steps.{IsOrderOf}
use Rattle.ws_server.proofs.JournalLaws.{journals_one}
use Rattle.ws_server.proofs.StepLaws.{changed, err_is, handed, left}
use Rattle.ws_server.proofs.gateway.Gateway.answer_between.Goals as goal

pub returns-clause-takes : goal.returns-clause-takes
returns-clause-takes g c =
    let contents = g.T.Write.contents in
    let hosts = (setting g.V.VendorHandler.view c.args.hub.now).is_hosted in
    let n = c.args.n in
    let begin = string_bytes c.args.bounds.now.begin in
    let end = string_bytes c.args.bounds.now.end in
    let old = peers_of c.args.self.now in
    let begun = peers_of c.say.new.self in
    let told = peers_of c.tell_all.new.self in
    let new = peers_of c.say-2.new.self in
    let outs = c.in_ok-outs.outs.items in
    let event = c.in-Some.event in
    let is : Some event ≡ c.args.event.now = search rules in
    let first = subst (λ text. At (SentWhileOpen contents text) n old begun) c.as_str-2.ensures.value c.say.ensures.said in
    let last = subst (λ text. At (SentWhileOpen contents text) n told new) c.as_str-3.ensures.value c.say-2.ensures.said in
    let sent = subst (λ os. TellsAll contents os begun told) c.deref.ensures.value c.tell_all.ensures.told in
    changed _ _ _ _ _ (λ steps. Between contents n begin end (HandsOrRefuses contents hosts n (Some event)) old new steps (Ok tt))
    (λ steps. Between contents n begin end (HandsOrRefuses contents hosts n c.args.event.now) old new steps (Ok tt))
    (λ steps change. subst (λ e. Between contents n begin end (HandsOrRefuses contents hosts n e) old new steps (Ok tt)) is change)
    (handed _ _ _ _ _ (λ steps. Between contents n begin end (HandsOrRefuses contents hosts n (Some event)) old new steps (Ok tt)) event outs
    (begun, told, first, (outs, refl, sent), last)
    (journals_one g.W.Write.contents _ _ event c.args.order.now outs (subst (λ e. IfSome e (λ event. IsOrderOf event c.args.order.now)) (sym is) c.requires.order) c.in_ok-outs.ensures.records.waits c.in_ok-outs.ensures.counts c.in_ok-outs.ensures.journal)
    c.in_ok-outs.ensures.taken c.in_ok-outs.ensures.setting c.in_ok-outs.ensures.outputs c.in_ok-outs.ensures.world)

pub returns-in_err-outs-clause-takes : goal.returns-in_err-outs-clause-takes
returns-in_err-outs-clause-takes g c =
    let e = c.in_err-outs.ensures in
    let contents = g.T.Write.contents in
    let hosts = (setting g.V.VendorHandler.view c.args.hub.now).is_hosted in
    let begin = string_bytes c.args.bounds.now.begin in
    let end = string_bytes c.args.bounds.now.end in
    let old = peers_of c.args.self.now in
    let event = c.in-Some.event in
    let is : Some event ≡ c.args.event.now = search rules in
    let r = c.from_residual.result in
    left _ _ _ _ _ (λ steps. Between contents c.args.n begin end (HandsOrRefuses contents hosts c.args.n c.args.event.now) old old steps r) _
    (subst (λ x. Between contents c.args.n begin end (HandsOrRefuses contents hosts c.args.n c.args.event.now) old old [] x) (err_is r c.in_err-outs.field-0.0 c.from_residual.ensures.0 c.from_residual.ensures.1)
    (subst (λ event. HandsOrRefuses contents hosts c.args.n event old old [] (Err c.in_err-outs.field-0.0)) is (refl, refl, e.not_hosted)))
    e.setting e.fault e.records e.same_counts e.left_out
