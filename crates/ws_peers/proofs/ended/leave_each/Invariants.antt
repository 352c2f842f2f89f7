use Rattle.std.proofs.Common.{◌≡◌, drop, vec_len}
use Rattle.ws_peers.specs.Peers.{is_open_peer, leaves}
use Rattle.ws_peers.proofs.EndedLaws.{Changed}
use Rattle.ws_peers.proofs.StageLaws.{leaves_open, leaves_twice}
use Rattle.ws_peers.proofs.ended.leave_each.Given as goal

abbrev pub invariant-loop-place : goal.invariant-loop-place
invariant-loop-place g l = record {
  changed : Changed is_open_peer leaves leaves_open leaves_twice (drop l.place-index l.places) l.fn.peers.items l.peers.items;
  len : vec_len l.peers ≡ vec_len l.fn.peers;
}
