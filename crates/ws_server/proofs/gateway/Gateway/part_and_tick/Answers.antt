use Rattle.std.proofs.Common.{map, subst}
use Rattle.turn_hub.specs.TurnHub.{setting}
use Rattle.hub.specs.World.{Setting}
use Rattle.ws_peers.specs.Peers.{leaves}
use Rattle.ws_peers.specs.declared.peer.Peer.{Peer}
use Rattle.ws_server.specs.Tells.{peers_of}
use Rattle.ws_server.specs.Turns.{Change, Then, Each, Parts, SweepsAndTicks, PartsAndTicks}
use Rattle.ws_server.proofs.StepLaws.{taken_on, changed, follows, becomes, fails}
use Rattle.ws_server.proofs.gateway.Gateway.part_and_tick.Goals as goal

pub returns-in_err-part_each-clause-takes : goal.returns-in_err-part_each-clause-takes
returns-in_err-part_each-clause-takes g c =
    let old = peers_of c.args.self.now in
    let new = peers_of c.part_each.new.self in
    let r = c.from_residual.result in
    let hosts = (setting g.V.VendorHandler.view c.args.hub.now).is_hosted in
    let Parted = Each (Parts g.T.Write.contents hosts c.args.moment) in
    let Rest = SweepsAndTicks g.T.Write.contents hosts c.args.moment in
    changed _ _ _ _ _ _ (λ steps. PartsAndTicks g.T.Write.contents hosts c.args.moment old new steps r)
    (λ steps change. becomes (map leaves) (Then Parted Rest) old _ new steps r c.leave.ensures (fails Parted Rest _ new steps c.in_err-part_each.field-0.0 r c.from_residual.ensures.0 c.from_residual.ensures.1 change))
    c.in_err-part_each.ensures.takes

pub returns-clause-takes : goal.returns-clause-takes
returns-clause-takes g c =
    let old = peers_of c.args.self.now in
    let mid = peers_of c.part_each.new.self in
    let new = peers_of c.sweep_and_tick.new.self in
    let r = c.sweep_and_tick.result in
    let Under : Setting → Change (Peer _) = λ st. SweepsAndTicks g.T.Write.contents st.is_hosted c.args.moment in
    let now = setting g.V.VendorHandler.view c.args.hub.now in
    let Parted = Each (Parts g.T.Write.contents now.is_hosted c.args.moment) in
    let same = c.in_ok-part_each.ensures.takes.stays in
    taken_on _ _ _ _ _ _ _ _ (λ steps. PartsAndTicks g.T.Write.contents now.is_hosted c.args.moment old new steps r)
    (λ before after first second. becomes (map leaves) (Then Parted (Under now)) old _ new _ r c.leave.ensures (follows Parted (Under now) _ mid new before after r first (subst (λ st. Under st mid new after r) same second)))
    c.sweep_and_tick.ensures.counted.was_clean c.in_ok-part_each.ensures.takes c.sweep_and_tick.ensures.takes
