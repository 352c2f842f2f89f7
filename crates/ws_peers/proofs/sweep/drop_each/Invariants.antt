use Rattle.std.proofs.Common.{◌≡◌, ◌≤◌, drop, false, map, vec_len}
use Rattle.ws_peers.specs.Lists.{Drops}
use Rattle.ws_peers.specs.Peers.{FailsOnlyAt, is_held_peer, is_open_peer, is_operator_peer, key_of_peer, places_of}
use Rattle.ws_peers.proofs.sweep.drop_each.Given as goal

abbrev pub invariant-loop-place : goal.invariant-loop-place
invariant-loop-place g l = record {
  drops : Drops l.fn.peers.items l.peers.items;
  left : FailsOnlyAt is_held_peer (drop l.place-index l.places) l.peers.items;
  listed : FailsOnlyAt is_open_peer l.places l.peers.items;
  keyed : l.keys.items ≡ map key_of_peer l.peers.items;
  operators : l.has_moved ≡ false → places_of is_operator_peer 0 l.peers.items ≡ places_of is_operator_peer 0 l.fn.peers.items;
  len : vec_len l.peers ≤ vec_len l.fn.peers;
}
