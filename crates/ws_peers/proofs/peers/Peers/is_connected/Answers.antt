use Rattle.std.proofs.Common.{◌∙◌, ap, sym}
use Rattle.ws_peers.specs.Lists.{is_open_at, is_connected, peers}
use Rattle.ws_peers.proofs.KeyLaws.{some_passes}
use Rattle.ws_peers.proofs.peers.Peers.is_connected.Goals as goal

pub returns-in-Station : goal.returns-in-Station
returns-in-Station g c =
    let all = peers c.args.self.now in
    let found = rw (c.as_str.ensures, c.as_str-in-Station.ensures, c.deref.ensures.value) at c.first_open.ensures in
    c.is_some.ensures ∙ some_passes (is_open_at c.in-Station.op c.in-Station.station) all c.first_open.result found ∙ ap (λ r. is_connected r all) (sym c.in-Station.is)
