use Rattle.std.proofs.Common.{arith, ◌∙◌, ap, sym, refl}
use Rattle.ws_peers.specs.Peers.{fails_at, is_open_peer, is_operator_peer, key_of_peer, leaves, places_of}
use Rattle.std.proofs.Common.{map}
use Rattle.ws_peers.proofs.EndedLaws.{fails_map}
use Rattle.ws_peers.proofs.ListLaws.{keyed_map}
use Rattle.ws_peers.proofs.PlaceLaws.{places_map}
use Rattle.ws_peers.proofs.StageLaws.{leaves_keeps}
use Rattle.ws_peers.proofs.peers.Peers.leave.Goals as goal

pub invariant_of-self : goal.invariant_of-self
invariant_of-self g c =
    let all = c.args.self.now in
    let ps = all.items.items in
    let is = c.leave_each.ensures.leaves in
    record {
      places = all.places ∙ sym (ap (places_of is_operator_peer 0) is ∙ places_map is_operator_peer leaves (λ p. refl) 0 ps);
      room = omega (arith, all.room, c.leave_each.ensures.len);
      keyed = all.keyed ∙ sym (ap (map key_of_peer) is ∙ keyed_map leaves (λ p. refl) ps);
      ended_room = omega (arith, all.ended_room, c.leave_each.ensures.len);
      listed = λ n fails. all.listed n (sym (ap (λ qs. fails_at is_open_peer qs n) is ∙ fails_map is_open_peer leaves leaves_keeps ps n) ∙ fails);
    }
