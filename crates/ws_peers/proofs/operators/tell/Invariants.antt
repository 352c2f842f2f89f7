use Rattle.std.proofs.Common.{◌≡◌, ◌≤◌, option_map, vec_len, vec_capacity}
use Rattle.ws_peers.specs.Lists.{ForText, Hears}
use Rattle.ws_peers.specs.Peers.{FailsOnlyAt, is_open_peer, is_operator_peer}
use Rattle.ws_peers.proofs.PlaceLaws.{Walked}
use Rattle.ws_peers.proofs.operators.tell.Given as goal

abbrev pub invariant-loop-place : goal.invariant-loop-place
invariant-loop-place g l = record {
  walked : Walked is_operator_peer (λ p q. ForText (option_map (λ t. t.now) l.text) (λ t. Hears g.T.Write.contents l.op t p q)) l.place-index l.places l.fn.peers.items l.peers.items;
  len : vec_len l.peers ≡ vec_len l.fn.peers;
  room : vec_len l.peers ≤ vec_capacity l.ended;
  listed : FailsOnlyAt is_open_peer l.ended.items l.peers.items;
}
