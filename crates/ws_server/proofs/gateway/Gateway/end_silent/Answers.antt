use Rattle.std.proofs.Common.{arith, get_or}
use Rattle.std.proofs.lemmas.List.{drop_more, drop_all}
use Rattle.ws_server.specs.Probes.{Silenced}
use Rattle.ws_server.specs.Tells.{peers_of}
use Rattle.ws_server.proofs.ProbeLaws.{visit-on, visit-end}
use Rattle.ws_server.proofs.gateway.Gateway.end_silent.Goals as goal

pub loop-place-preserved : goal.loop-place-preserved
loop-place-preserved g c =
    let places = c.args.places.now in
    let i = c.loop-place.place-index in
    visit-on Silenced places (peers_of c.args.self.now) i (get_or places i 0) (peers_of c.loop-place.self) (peers_of c.end_at.new.self)
    (drop_more places i 0 (grind (arith, c.loop-place.auto, c.loop-place-test.true))) c.loop-place.invariant c.end_at.ensures

pub returns : goal.returns
returns g c =
    let places = c.args.places.now in
    let i = c.loop-place.place-index in
    visit-end Silenced places (peers_of c.args.self.now) i (peers_of c.loop-place.self) (drop_all i places (grind (arith, c.loop-place.auto, c.loop-place-test.false))) c.loop-place.invariant
