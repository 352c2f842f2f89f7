use Rattle.std.proofs.Common.{ap, get_or, inr, sym, subst, ◌∙◌}
use Rattle.ws_server.specs.Admits.{AsksFor, WelcomesOne}
use Rattle.ws_server.specs.Lobbies.{IfWelcome, origins_of}
use Rattle.ws_server.specs.Tells.{peers_of}
use Rattle.ws_server.specs.declared.lobby.Waiting.{Waiting}
use Rattle.ws_server.proofs.AdmitLaws.{whoever}
use Rattle.ws_server.proofs.StepLaws.{changed}
use Rattle.ws_server.proofs.lobby.Lobby.look.Goals as goal

pub returns-in-Ok-Welcome-clause-takes : goal.returns-in-Ok-Welcome-clause-takes
returns-in-Ok-Welcome-clause-takes g c =
    let old = peers_of c.args.gateway.now in
    let new = peers_of c.welcome.new.self in
    let r = c.welcome.result in
    let items = c.args.self.now.waiting.items in
    let n = c.args.n.now in
    let origins = origins_of c.args.self.now in
    let one = c.remove-one-in-Ok-Welcome.result in
    let upgrade = c.in-Ok-Welcome.upgrade in
    let asks = subst (λ next. IfWelcome next (λ upgrade. (other : Waiting _) → AsksFor origins g.T.Read.remaining (get_or items n other).stream upgrade)) c.in-Ok-Welcome.field-0-is c.in-Ok-Welcome.ensures.asks one in
    let own = subst (λ w. AsksFor origins g.T.Read.remaining w.stream upgrade) (sym (c.remove-one-in-Ok-Welcome.ensures.value ∙ ap (λ xs. get_or xs n one) c.in-Ok-Welcome.ensures.waiting)) asks in
    changed _ _ _ _ _ _ (λ steps. WelcomesOne g.T.Read.remaining g.T.Write.contents c.args.moment origins old new steps r)
    (λ steps welcomed. inr (one.stream, upgrade, own, whoever _ _ _ _ _ _ _ _ _ _ welcomed)) c.welcome.ensures.takes
