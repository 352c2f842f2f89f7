use Rattle.turn_hub.specs.TurnHub.{is_clean, world}
use Rattle.std.proofs.Common.{Bool, ap, ◌∙◌, ◌≡◌, List, [], ◌++◌, refl, subst, sym, inl, inr}
use Rattle.std.specs.Option.{is_some}
use Rattle.ws_handshake.specs.Shakes.{Shaken}
use Rattle.ws_handshake.specs.Subprotocols.{chosen}
use Rattle.ws_server.specs.Admits.{Admits, Welcomes, is_tolerant}
use Rattle.ws_server.specs.Steps.{Step}
use Rattle.ws_server.specs.Tells.{peers_of}
use Rattle.ws_server.proofs.StepLaws.{asked, taken_on}
use Rattle.ws_server.proofs.gateway.Gateway.welcome.Goals as goal

pub returns-in-Ok-shake-clause-takes : goal.returns-in-Ok-shake-clause-takes
returns-in-Ok-shake-clause-takes g c =
    let old = peers_of c.args.self.now in
    let new = peers_of c.admit.new.self in
    let r = c.admit.result in
    let None : List Step → Type 0 = λ steps. steps ≡ [] in
    let IsTolerant : Bool → Type 0 = λ tolerant. is_clean g.S.Store.view c.admit.new.hub → tolerant ≡ is_tolerant (world g.S.Store.view c.args.hub.now).rows c.args.upgrade.route in
    let Welcomed : List Step → Type 0 = λ steps. Welcomes g.T.Read.remaining g.T.Write.contents c.args.moment IsTolerant c.args.client.stream c.args.upgrade old new steps r in
    let tolerant : Bool = c.in-Ok.known.is_tolerant in
    let shaken = subst (λ s. Shaken g.T.Read.remaining g.T.Write.contents c.args.upgrade s c.args.client.stream c.in-Ok-shake.socket) c.chosen-subprotocol.ensures c.in-Ok-shake.ensures in
    let admitted : (steps : List Step) → Admits g.T.Write.contents c.in-Ok-shake.socket c.args.moment c.args.upgrade.route c.is_some.result old new steps r → Admits g.T.Write.contents c.in-Ok-shake.socket c.args.moment c.args.upgrade.route (is_some (chosen tolerant c.args.upgrade.offered)) old new steps r
    = λ steps change. subst (λ b. Admits g.T.Write.contents c.in-Ok-shake.socket c.args.moment c.args.upgrade.route b old new steps r) (c.is_some.ensures ∙ ap is_some c.chosen-subprotocol.ensures) change in
    taken_on _ _ _ _ _ _ None _ Welcomed
    (λ before after none change. subst (λ steps. Welcomed (steps ++ after)) (sym none) (inr (c.in-Ok.known.is_tolerant, (λ clean. c.in-Ok.ensures.tolerant (c.admit.ensures.counted.was_clean clean)), c.in-Ok-shake.socket, shaken, admitted after change)))
    c.admit.ensures.counted.was_clean
    (asked _ _ _ _ _ None _ refl c.in-Ok.ensures.setting c.in-Ok.ensures.world c.in-Ok.ensures.records c.in-Ok.ensures.journal) c.admit.ensures.takes

pub returns-in-Err-clause-takes : goal.returns-in-Err-clause-takes
returns-in-Err-clause-takes g c = asked _ _ _ _ _ _ _ (inl (refl, refl)) c.in-Err.ensures.setting c.in-Err.ensures.world c.in-Err.ensures.records c.in-Err.ensures.journal

pub returns-in-Some-clause-takes : goal.returns-in-Some-clause-takes
returns-in-Some-clause-takes g c = asked _ _ _ _ _ _ _ (inl (c.refuse.ensures, refl)) c.in-Ok.ensures.setting c.in-Ok.ensures.world c.in-Ok.ensures.records c.in-Ok.ensures.journal

pub returns-in-Err-shake-clause-takes : goal.returns-in-Err-shake-clause-takes
returns-in-Err-shake-clause-takes g c = asked _ _ _ _ _ _ _ (inl (refl, refl)) c.in-Ok.ensures.setting c.in-Ok.ensures.world c.in-Ok.ensures.records c.in-Ok.ensures.journal
