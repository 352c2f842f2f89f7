use Rattle.std.proofs.Common.{[], Err, rules, subst, refl, ap, ◌∙◌}
use Rattle.ws_peers.specs.Lists.{peers}
use Rattle.ws_server.specs.Admits.{Connects, Enters}
use Rattle.ws_server.specs.Events.{turns_away}
use Rattle.ws_server.specs.Tells.{peers_of, TellsAll}
use Rattle.ws_server.proofs.JournalLaws.{journals_one}
use Rattle.ws_server.proofs.StepLaws.{handed, left, stayed}
use Rattle.ws_server.proofs.gateway.Gateway.connect.Goals as goal

pub returns-clause-takes : goal.returns-clause-takes
returns-clause-takes g c =
    let outs = c.in-Ok.outs.items in
    let mid = peers c.enter.new.all in
    let entered = subst (λ away. Enters g.T.Write.contents c.args.socket away c.args.arrival.route (peers c.reserve.new.self) mid) (c.turns_away-is_turned_away.ensures ∙ ap turns_away c.deref.ensures.value) c.enter.ensures in
    let inside = subst (λ old. Enters g.T.Write.contents c.args.socket (turns_away outs) c.args.arrival.route old mid) c.in_ok-reserve.ensures.peers entered in
    handed _ _ _ _ _ _ c.args.event.now outs
    (outs, mid, refl, inside, subst (λ os. TellsAll g.T.Write.contents os mid (peers_of c.tell_all.new.self)) c.deref-2.ensures.value c.tell_all.ensures.told)
    (journals_one g.W.Write.contents _ _ c.args.event.now [] outs c.requires c.in-Ok.ensures.records.waits c.in-Ok.ensures.counts c.in-Ok.ensures.journal)
    c.in-Ok.ensures.taken c.in-Ok.ensures.setting c.in-Ok.ensures.outputs c.in-Ok.ensures.world

pub returns-in_err-reserve-clause-takes : goal.returns-in_err-reserve-clause-takes
returns-in_err-reserve-clause-takes g c =
    let old = peers_of c.args.self.now in
    let new = peers c.reserve.new.self in
    let r = c.from_residual.result in
    let change : Connects g.T.Write.contents c.args.socket c.args.event.now c.args.arrival.route old new [] r = search rules in
    stayed _ _ _ _ (λ steps. Connects g.T.Write.contents c.args.socket c.args.event.now c.args.arrival.route old new steps r) change

pub returns-in-Err-clause-takes : goal.returns-in-Err-clause-takes
returns-in-Err-clause-takes g c =
    let e = c.in-Err.ensures in
    let old = peers_of c.args.self.now in
    let new = peers c.reserve.new.self in
    let change : Connects g.T.Write.contents c.args.socket c.args.event.now c.args.arrival.route old new [] (Err c.in-Err.fault) = search rules in
    left _ _ _ _ _ (λ steps. Connects g.T.Write.contents c.args.socket c.args.event.now c.args.arrival.route old new steps (Err c.in-Err.fault)) _ change
    e.setting e.fault e.records e.same_counts e.left_out
