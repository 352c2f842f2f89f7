use Rattle.std.proofs.Common.{◌≤◌}
use Rattle.ws_peers.specs.Lists.{is_open_for}
use Rattle.ws_peers.specs.Peers.{is_operator_peer}
use Rattle.ws_peers.proofs.ListLaws.{no_operator}
use Rattle.ws_peers.proofs.PlaceLaws.{Counted}
use Rattle.ws_peers.proofs.operators.count_open.Given as goal

abbrev pub invariant-loop-place : goal.invariant-loop-place
invariant-loop-place g l = record {
  counted : Counted is_operator_peer (is_open_for l.op) (no_operator l.op) l.place-index l.places l.peers l.count;
  few : l.count ≤ l.place-index;
}
