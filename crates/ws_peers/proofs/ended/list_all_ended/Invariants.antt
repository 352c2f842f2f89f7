use Rattle.std.proofs.Common.{◌≤◌, vec_len, vec_capacity}
use Rattle.ws_peers.specs.Peers.{is_open_peer}
use Rattle.ws_peers.proofs.EndedLaws.{ListedTo}
use Rattle.ws_peers.proofs.ended.list_all_ended.Given as goal

abbrev pub invariant-loop-n : goal.invariant-loop-n
invariant-loop-n g l = record {
  listed : ListedTo is_open_peer l.n l.ended.items l.peers;
  few : vec_len l.ended ≤ l.n;
  room : vec_capacity l.fn.ended ≤ vec_capacity l.ended;
}
