use Rattle.std.proofs.Common.{arith}
use Rattle.ws_peers.proofs.ListLaws.{kept_zip, keyed_zip, way_route}
use Rattle.ws_peers.proofs.peers.Peers.give_way.Goals as goal

pub invariant_of-self : goal.invariant_of-self
invariant_of-self g c = record {
  places = kept_zip _ _ (way_route g.T.Write.contents _ _) _ _ c.give_way.ensures.way c.args.self.now.places;
  room = omega (arith, c.requires.1, c.give_way.ensures.len);
  keyed = keyed_zip _ _ (way_route g.T.Write.contents _ _) _ _ c.give_way.ensures.way c.args.self.now.keyed;
  ended_room = omega (arith, c.requires.1, c.give_way.ensures.len, c.give_way.ensures.room);
  listed = c.give_way.ensures.listed;
}
