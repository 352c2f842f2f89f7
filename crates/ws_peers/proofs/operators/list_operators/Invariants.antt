use Rattle.std.proofs.Common.{◌≡◌, ◌≤◌, ◌++◌, drop, vec_len, vec_capacity}
use Rattle.ws_peers.specs.Peers.{is_operator_peer, places_of}
use Rattle.ws_peers.proofs.operators.list_operators.Given as goal

abbrev pub invariant-loop-n : goal.invariant-loop-n
invariant-loop-n g l = record {
  listed : l.places.items ++ places_of is_operator_peer l.n (drop l.n l.peers) ≡ places_of is_operator_peer 0 l.peers;
  few : vec_len l.places ≤ l.n;
  room : vec_capacity l.fn.places ≤ vec_capacity l.places;
}
