use Rattle.std.proofs.Common.{◌≡◌, ◌≢◌, ◌≤◌, ℕ, Bool, true, false, map, vec_len}
use Rattle.ws_peers.specs.Lists.{Drops}
use Rattle.ws_peers.specs.Peers.{fails_at, is_operator_peer, key_of_peer, places_of}
use Rattle.ws_peers.specs.declared.peer.Peer.{Peer}
use Rattle.ws_peers.proofs.sweep.drop_gone.Given as goal

abbrev pub invariant-loop-peers : goal.invariant-loop-peers
invariant-loop-peers g l = record {
  drops : Drops l.fn.peers.items l.peers.items;
  others : (test : Peer _ → Bool) (n : ℕ) → n ≢ l.place → fails_at test l.peers.items n ≡ true → fails_at test l.fn.peers.items n ≡ true;
  keyed : l.keys.items ≡ map key_of_peer l.peers.items;
  operators : l.has_moved ≡ false → places_of is_operator_peer 0 l.peers.items ≡ places_of is_operator_peer 0 l.fn.peers.items;
  len : vec_len l.peers ≤ vec_len l.fn.peers;
}

abbrev pub decreases-loop-peers : goal.decreases-loop-peers
decreases-loop-peers g l = vec_len l.peers
