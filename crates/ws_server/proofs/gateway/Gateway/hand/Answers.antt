use Rattle.std.proofs.Common.{[], subst, refl}
use Rattle.turn_hub.specs.TurnHub.{setting}
use Rattle.ws_server.specs.Tells.{peers_of, TellsAll}
use Rattle.ws_server.specs.Turns.{Hands}
use Rattle.ws_server.proofs.JournalLaws.{journals_one}
use Rattle.ws_server.proofs.StepLaws.{err_is, handed, left}
use Rattle.ws_server.proofs.gateway.Gateway.hand.Goals as goal

pub returns-clause-takes : goal.returns-clause-takes
returns-clause-takes g c =
    let e = c.in_ok-outs.ensures in
    handed _ _ _ _ _ _ c.args.event.now c.in_ok-outs.outs.items (c.in_ok-outs.outs.items, refl, subst (λ outs. TellsAll g.T.Write.contents outs (peers_of c.args.self.now) (peers_of c.tell_all.new.self)) c.deref.ensures.value c.tell_all.ensures.told)
    (journals_one g.W.Write.contents _ _ c.args.event.now c.args.order.now c.in_ok-outs.outs.items c.requires e.records.waits e.counts e.journal)
    c.in_ok-outs.ensures.taken c.in_ok-outs.ensures.setting c.in_ok-outs.ensures.outputs c.in_ok-outs.ensures.world

pub returns-in_err-outs-clause-takes : goal.returns-in_err-outs-clause-takes
returns-in_err-outs-clause-takes g c =
    let e = c.in_err-outs.ensures in
    let hosts = (setting g.V.VendorHandler.view c.args.hub.now).is_hosted in
    let old = peers_of c.args.self.now in
    let r = c.from_residual.result in
    left _ _ _ _ _ (λ steps. Hands g.T.Write.contents hosts c.args.event.now old old steps r) _
    (subst (λ x. Hands g.T.Write.contents hosts c.args.event.now old old [] x) (err_is r c.in_err-outs.field-0.0 c.from_residual.ensures.0 c.from_residual.ensures.1) (refl, refl, e.not_hosted))
    e.setting e.fault e.records e.same_counts e.left_out
