use Rattle.std.proofs.Common.{arith, ◌∙◌, ap}
use Rattle.ws_peers.specs.Peers.{is_open_peer}
use Rattle.ws_peers.specs.Stages.{is_open}
use Rattle.ws_peers.proofs.EndedLaws.{says_in, listed_on, listed_end}
use Rattle.ws_peers.proofs.ended.list_all_ended.Goals as goal

pub loop-n-preserved : goal.loop-n-preserved
loop-n-preserved g c = record {
  listed = listed_on is_open_peer c.loop-n.ended.items c.list_place.new.places.items c.args.peers.now c.loop-n.n _
      (says_in is_open_peer c.args.peers.now c.loop-n.n c.index-peers-n.result c.is_open.result c.loop-n-test.true (c.is_open.ensures ∙ ap is_open c.stage.ensures ∙ ap is_open_peer c.index-peers-n.is))
      c.list_place.ensures.items c.loop-n.invariant.listed;
  few = omega (arith, c.list_place.ensures.len, c.loop-n.invariant.few);
  room = omega (arith, c.list_place.ensures.capacity, c.loop-n.invariant.room);
}

pub returns-clause-listed : goal.returns-clause-listed
returns-clause-listed g c = listed_end is_open_peer c.loop-n.ended.items c.args.peers.now c.loop-n.n c.loop-n-test.false c.loop-n.invariant.listed
