use Rattle.std.proofs.Common.{arith, ap, length, rules, subst}
use Rattle.ws_peers.specs.Peers.{FailsOnlyAt, is_open_peer}
use Rattle.ws_peers.proofs.ListLaws.{front_end, kept_zip, keyed_zip, ended_route}
use Rattle.ws_peers.proofs.PlaceLaws.{front_on}
use Rattle.ws_peers.proofs.peers.Peers.end_each.Goals as goal

pub loop-peer-preserved : goal.loop-peer-preserved
loop-peer-preserved g c = front_on _ _ _ c.loop-peer.peer-index c.peer-item.result _ c.loop-peer.invariant (grind (arith, c.loop-peer.auto, c.loop-peer-test.true)) c.end_with.ensures.ended

pub invariant_of-self : goal.invariant_of-self
invariant_of-self g c = record {
  places = kept_zip _ _ (ended_route g.T.Write.contents c.args.code c.args.cause) _ _
      (front_end _ c.loop-peer.peer-index _ _ _ _ c.loop-peer.invariant (grind (arith, c.loop-peer.auto, c.loop-peer-test.false)) (grind (arith, c.loop-peer.auto, c.deref_mut-peer-items.ensures.len, ap length c.deref_mut-peer-items.ensures.value)))
      c.args.self.now.places;
  room = grind arith;
  keyed = keyed_zip _ _ (ended_route g.T.Write.contents c.args.code c.args.cause) _ _
      (front_end _ c.loop-peer.peer-index _ _ _ _ c.loop-peer.invariant (grind (arith, c.loop-peer.auto, c.loop-peer-test.false)) (grind (arith, c.loop-peer.auto, c.deref_mut-peer-items.ensures.len, ap length c.deref_mut-peer-items.ensures.value)))
      c.args.self.now.keyed;
  ended_room = search rules;
  listed = subst (FailsOnlyAt is_open_peer c.list_all_ended.new.ended.items) c.deref.ensures.value c.list_all_ended.ensures.listed;
}

pub returns : goal.returns
returns g c = front_end _ c.loop-peer.peer-index _ _ _ _ c.loop-peer.invariant (grind (arith, c.loop-peer.auto, c.loop-peer-test.false)) (grind (arith, c.loop-peer.auto, c.deref_mut-peer-items.ensures.len, ap length c.deref_mut-peer-items.ensures.value))
