use Rattle.std.proofs.Common.{List, ap, refl, subst, sym, ◌++◌, ◌∙◌, ◌≡◌, []}
use Rattle.std.proofs.lemmas.List.{append_assoc}
use Rattle.hub.specs.World.{Setting}
use Rattle.turn_hub.specs.TurnHub.{setting}
use Rattle.ws_server.specs.Admits.{WelcomesSome}
use Rattle.ws_server.specs.Lobbies.{origins_of}
use Rattle.ws_server.specs.Steps.{Step}
use Rattle.ws_server.specs.Tells.{peers_of}
use Rattle.ws_server.specs.TurnServers.{ServesSome, ToFault, TurnOf}
use Rattle.ws_server.specs.Turns.{PartsAndTicks}
use Rattle.ws_server.proofs.TurnLaws.{stage_more}
use Rattle.ws_server.proofs.turn_server.TurnServer.serve_turn.Goals as goal

pub returns-clause-stage : goal.returns-clause-stage
returns-clause-stage g c =
    let view = g.S.Store.view in
    let handlers = g.V.VendorHandler.view in
    let m = c.args.time.moment in
    let old = c.args.self.now in
    let st : Setting = setting handlers old.hub in
    let welcomed = peers_of c.welcome.new.self.gateway in
    let served = peers_of c.serve.new.self.gateway in
    let new = peers_of c.part.new.self.gateway in
    let Welcomed : List Step → Type 0 = ToFault (WelcomesSome g.T.Read.remaining g.T.Write.contents m (origins_of old.lobby)) (peers_of old.gateway) welcomed in
    let Served : Setting → List Step → Type 0 = λ st. ToFault (ServesSome g.T.Read.remaining g.T.Write.contents st.is_hosted m) welcomed served in
    let Parted : Setting → List Step → Type 0 = λ st. ToFault (PartsAndTicks g.T.Write.contents st.is_hosted m) served new in
    let Both : List Step → Type 0 = λ steps. (first : List Step) × (second : List Step) × Welcomed first × Served st second × (first ++ second ≡ steps) in
    let first = stage_more view handlers g.W.Write.contents _ _ _ _ _ (λ steps. steps ≡ []) _ Welcomed refl
    (λ before after none change stays. subst (λ b. Welcomed (b ++ after)) (sym none)
    (subst (λ gateway. ToFault (WelcomesSome g.T.Read.remaining g.T.Write.contents m (origins_of old.lobby)) (peers_of gateway) welcomed after) c.in_ok-begin.ensures.gateway
    (subst (λ lobby. ToFault (WelcomesSome g.T.Read.remaining g.T.Write.contents m (origins_of lobby)) (peers_of c.begin.new.self.gateway) welcomed after) c.in_ok-begin.ensures.lobby change)))
    c.in_ok-begin.ensures.stage c.in_ok-welcome.ensures.stage in
    let second = stage_more view handlers g.W.Write.contents _ _ _ _ _ Welcomed _ Both refl (λ before after welcomed change stays. (before, after, welcomed, subst (λ st. Served st after) stays change, refl)) first c.in_ok-serve.ensures.stage in
    stage_more view handlers g.W.Write.contents _ _ _ _ _ Both _ (TurnOf view handlers g.T.Read.remaining g.T.Write.contents m old new) refl
    (λ before after both change stays. record {
      welcomed = welcomed;
      served = served;
      first = both.0;
      second = both.1;
      third = after;
      welcomes = both.2;
      serves = both.3;
      parts = subst (λ st. Parted st after) stays change;
      all = sym (append_assoc both.0 both.1 after) ∙ ap (λ b. b ++ after) both.4;
    })
    second c.part.ensures.stage
