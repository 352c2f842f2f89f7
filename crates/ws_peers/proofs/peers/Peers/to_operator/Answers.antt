use Rattle.std.proofs.Common.{arith, option_map}
use Rattle.ws_peers.proofs.ListLaws.{kept_zip, keyed_zip, for_all, for_route}
use Rattle.ws_peers.proofs.peers.Peers.to_operator.Goals as goal

pub invariant_of-self : goal.invariant_of-self
invariant_of-self g c = record {
  places = kept_zip _ _ (for_route g.T.Write.contents c.args.op.now (option_map (λ t. t.now) c.args.text)) _ _ c.tell.ensures.heard c.args.self.now.places;
  room = grind arith;
  keyed = keyed_zip _ _ (for_route g.T.Write.contents c.args.op.now (option_map (λ t. t.now) c.args.text)) _ _ c.tell.ensures.heard c.args.self.now.keyed;
  ended_room = c.tell.ensures.room;
  listed = c.tell.ensures.listed;
}

pub returns-clause-sent : goal.returns-clause-sent
returns-clause-sent g c = for_all g.T.Write.contents c.args.op.now (option_map (λ t. t.now) c.args.text) _ _ c.tell.ensures.heard
