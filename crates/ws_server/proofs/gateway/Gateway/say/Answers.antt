use Rattle.std.proofs.Common.{◌≡◌, ◌∙◌, ap, sym, true, false, rules}
use Rattle.ws_peers.specs.Lists.{peers}
use Rattle.ws_peers.specs.Peers.{stage_of}
use Rattle.ws_peers.specs.Stages.{is_open}
use Rattle.ws_server.specs.Tells.{peers_of}
use Rattle.ws_server.proofs.SayLaws.{said, unsaid}
use Rattle.ws_server.proofs.gateway.Gateway.say.Goals as goal

pub returns-then-not-is_open-clause-said : goal.returns-then-not-is_open-clause-said
returns-then-not-is_open-clause-said g c =
    let ended : c.is_open.result ≡ false = search rules in
    unsaid g.T.Write.contents c.args.text.now c.args.n (peers_of c.args.self.now) c.requires
    (λ d. ap (λ p. is_open (stage_of p)) (sym (c.peer.ensures d)) ∙ ap is_open (sym c.stage.ensures) ∙ sym c.is_open.ensures ∙ ended)

pub returns-clause-said : goal.returns-clause-said
returns-clause-said g c =
    let is : c.is_open.result ≡ true = search rules in
    said g.T.Write.contents c.args.text.now c.args.n (peers_of c.args.self.now) (peers c.send.new.self) c.send.ensures.sent
    (λ d. ap (λ p. is_open (stage_of p)) (sym (c.peer.ensures d)) ∙ ap is_open (sym c.stage.ensures) ∙ sym c.is_open.ensures ∙ is)
