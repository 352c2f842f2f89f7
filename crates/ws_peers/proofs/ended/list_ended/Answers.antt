use Rattle.std.proofs.Common.{◌∙◌, ◌∷◌, if◌then◌else◌, subst, sym}
use Rattle.ws_peers.specs.Peers.{FailsOnlyAt, is_open_peer}
use Rattle.ws_peers.proofs.EndedLaws.{fails_less}
use Rattle.ws_peers.proofs.ended.list_ended.Goals as goal

pub returns-then-not-was_open-clause-listed : goal.returns-then-not-was_open-clause-listed
returns-then-not-was_open-clause-listed g c =
    subst (λ b. FailsOnlyAt is_open_peer (if b then c.args.place ∷ c.args.ended.now.items else c.args.ended.now.items) c.args.peers.now) c.if-not-was_open.true c.requires.others

pub returns-then-not-is_ended_at-clause-listed : goal.returns-then-not-is_ended_at-clause-listed
returns-then-not-is_ended_at-clause-listed g c =
    fails_less is_open_peer c.args.ended.now.items c.args.peers.now c.args.place (sym c.is_ended_at.ensures ∙ c.if-not-is_ended_at.true)
    (subst (λ b. FailsOnlyAt is_open_peer (if b then c.args.place ∷ c.args.ended.now.items else c.args.ended.now.items) c.args.peers.now) c.if-not-was_open.false c.requires.others)
