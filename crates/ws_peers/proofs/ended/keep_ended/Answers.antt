use Rattle.std.proofs.Common.{rules}
use Rattle.std.proofs.lemmas.Fn.{filter_same}
use Rattle.ws_peers.specs.Peers.{fails_at, is_open_peer}
use Rattle.ws_peers.proofs.EndedLaws.{fails_kept}
use Rattle.ws_peers.proofs.ended.keep_ended.Goals as goal

pub returns-clause-listed : goal.returns-clause-listed
returns-clause-listed g c = fails_kept is_open_peer c.args.ended.now.items c.retain.new.self.items c.args.peers.now
    (filter_same _ (fails_at is_open_peer c.args.peers.now) _ (λ x b f' called. search rules) _ _ c.retain.ensures.filtered) c.requires
