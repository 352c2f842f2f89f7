use Rattle.std.proofs.Common.{arith, ◌∙◌, sym, refl}
use Rattle.ws_peers.specs.declared.heard.Heard.TheVariants as Heard
use Rattle.ws_peers.proofs.PeerLaws.{took}
use Rattle.ws_peers.proofs.peer.Peer.take.Goals as goal

pub returns-in-Text-clause-took : goal.returns-in-Text-clause-took
returns-in-Text-clause-took g c = took _ _ _ _ _ _ _ (Heard.Text c.in-Text.text) (grind (arith, c.if-not-is_open.false, c.is_open.ensures)) c.read-gave.ensures (sym c.in-Text.is ∙ c.what_is_heard.ensures) (refl, refl)

pub returns-in-Nothing-clause-took : goal.returns-in-Nothing-clause-took
returns-in-Nothing-clause-took g c = took _ _ _ _ _ _ _ Heard.Nothing (grind (arith, c.if-not-is_open.false, c.is_open.ensures)) c.read-gave.ensures (sym c.in-Nothing.is ∙ c.what_is_heard.ensures) (refl, refl)

pub returns-in-Breach-clause-took : goal.returns-in-Breach-clause-took
returns-in-Breach-clause-took g c = took _ _ _ _ _ _ _ (Heard.Breach c.in-Breach.code) (grind (arith, c.if-not-is_open.false, c.is_open.ensures)) c.read-gave.ensures (sym c.in-Breach.is ∙ c.what_is_heard.ensures) (c.close.ensures, refl)

pub returns-in-Ends-clause-took : goal.returns-in-Ends-clause-took
returns-in-Ends-clause-took g c = took _ _ _ _ _ _ _ (Heard.Ends c.in-Ends.cause) (grind (arith, c.if-not-is_open.false, c.is_open.ensures)) c.read-gave.ensures (sym c.in-Ends.is ∙ c.what_is_heard.ensures) (refl, c.flush-flushed.ensures.sent, refl)
