use Rattle.std.proofs.Common.{◌∙◌, ap}
use Rattle.std.specs.List.{position}
use Rattle.ws_peers.specs.Lists.{is_open_at, peers}
use Rattle.ws_peers.proofs.ListLaws.{position_found}
use Rattle.ws_peers.proofs.peers.Peers.place_of.Goals as goal

pub returns-clause-found : goal.returns-clause-found
returns-clause-found g c =
    let is = is_open_at c.args.op.now c.args.station.now in
    position_found is (peers c.args.self.now) c.first_open.result (c.first_open.ensures ∙ ap (position is) c.deref.ensures.value)
