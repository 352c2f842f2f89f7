use Rattle.ws_peers.proofs.PathLaws.{patterns_made}
use Rattle.ws_peers.proofs.paths.patterns.Goals as goal

pub returns : goal.returns
returns c = patterns_made _ _ _ c.new-router.ensures c.in_ok-put.ensures c.in_ok-put-2.ensures
