use Rattle.std.proofs.Common.{◌≡◌, ◌≤◌, vec_len, vec_capacity}
use Rattle.ws_peers.specs.Lists.{Front, GivesWay}
use Rattle.ws_peers.specs.Peers.{FailsOnlyAt, is_open_peer}
use Rattle.ws_peers.proofs.stations.give_way.Given as goal

abbrev pub invariant-loop-n : goal.invariant-loop-n
invariant-loop-n g l = record {
  front : Front (GivesWay g.T.Write.contents l.op l.station) l.n l.fn.peers.items l.peers.items;
  len : vec_len l.peers ≡ vec_len l.fn.peers;
  capacity : vec_capacity l.peers ≡ vec_capacity l.fn.peers;
  room : vec_capacity l.fn.ended ≤ vec_capacity l.ended;
  listed : FailsOnlyAt is_open_peer l.ended.items l.peers.items;
}
