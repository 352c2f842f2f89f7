use Rattle.std.proofs.Common.{arith, ap, length, sym, subst, ◌∙◌, ◌+◌, ◌∷◌, if◌then◌else◌}
use Rattle.std.proofs.lemmas.List.{length-map}
use Rattle.ws_peers.specs.Lists.{Front, GivesWay}
use Rattle.ws_peers.specs.Peers.{FailsOnlyAt, is_open_peer, key_of_peer}
use Rattle.ws_peers.specs.Stages.{is_open}
use Rattle.ws_peers.proofs.EndedLaws.{listed_set}
use Rattle.ws_peers.proofs.KeyLaws.{other_station, stays, front_stay}
use Rattle.ws_peers.proofs.PlaceLaws.{front_on, front_all}
use Rattle.ws_peers.proofs.stations.give_way.Goals as goal
use Rattle.ws_peers.proofs.stations.give_way.Goals.{then-key-wanted, else-key-wanted}

pub loop-n-preserved : goal.loop-n-preserved
loop-n-preserved g c =
    let R = GivesWay g.T.Write.contents c.args.op.now c.args.station.now in
    let old = c.args.peers.now.items in
    let now = c.loop-n.peers.items in
    record {
      front = elim c.if-key-wanted.branch [
        | then-key-wanted w ↦ subst (λ v. Front R (c.loop-n.n + 1) old v.items) (sym w.peers-is) (front_on R old now c.loop-n.n w.index_mut-peer.result.now _ c.loop-n.invariant.front (omega (arith, c.loop-n-test.true, ap length c.requires.keyed, length-map old key_of_peer, c.loop-n.peers.ok.0, c.args.peers.now.ok.0, c.loop-n.invariant.len)) (subst (λ p. R p w.give_way.new.self) w.index_mut-peer.ensures.value w.give_way.ensures.gives_way))
        | else-key-wanted w ↦ subst (λ v. Front R (c.loop-n.n + 1) old v.items) (sym w.peers-is) (front_stay R c.loop-n.n old now c.loop-n.invariant.front (omega (arith, c.loop-n-test.true, ap length c.requires.keyed, length-map old key_of_peer, c.loop-n.peers.ok.0, c.args.peers.now.ok.0, c.loop-n.invariant.len))
            (λ d. stays g.T.Write.contents c.args.op.now c.args.station.now _ (other_station c.args.op.now c.args.station.now c.args.keys.now old c.loop-n.n c.station_key-wanted.result d c.requires.keyed (omega (arith, c.loop-n-test.true, ap length c.requires.keyed, length-map old key_of_peer)) c.station_key-wanted.ensures w.if-key-wanted.false)))
      ];
      len = elim c.if-key-wanted.branch [ then-key-wanted w ↦ ap (λ v. v.len) w.peers-is ∙ c.loop-n.invariant.len | else-key-wanted w ↦ ap (λ v. v.len) w.peers-is ∙ c.loop-n.invariant.len ];
      capacity = elim c.if-key-wanted.branch [ then-key-wanted w ↦ ap (λ v. v.cap) w.peers-is ∙ c.loop-n.invariant.capacity | else-key-wanted w ↦ ap (λ v. v.cap) w.peers-is ∙ c.loop-n.invariant.capacity ];
      room = elim c.if-key-wanted.branch [
        | then-key-wanted w ↦ rw (w.ended-is) (omega (arith, c.loop-n.invariant.room, w.list_ended.ensures.capacity))
        | else-key-wanted w ↦ rw (w.ended-is) (c.loop-n.invariant.room)
      ];
      listed = elim c.if-key-wanted.branch [
        | then-key-wanted w ↦ rw (w.ended-is, w.peers-is) (subst (FailsOnlyAt is_open_peer w.list_ended.new.ended.items) w.deref.ensures.value w.list_ended.ensures.listed)
        | else-key-wanted w ↦ rw (w.ended-is, w.peers-is) (c.loop-n.invariant.listed)
      ];
    }

pub list_ended-requires-clause-others : goal.list_ended-requires-clause-others
list_ended-requires-clause-others g c =
    let was = c.is_open-was_open.result in
    subst (FailsOnlyAt is_open_peer (if was then c.loop-n.n ∷ c.loop-n.ended.items else c.loop-n.ended.items)) (sym c.deref.ensures.value)
    (listed_set c.loop-n.ended.items c.loop-n.peers.items c.loop-n.n c.index_mut-peer.result.now c.give_way.new.self was
    (c.is_open-was_open.ensures ∙ ap is_open c.stage.ensures ∙ ap is_open_peer c.index_mut-peer.ensures.value) c.loop-n.invariant.listed)

pub returns-clause-way : goal.returns-clause-way
returns-clause-way g c =
    front_all (GivesWay g.T.Write.contents c.args.op.now c.args.station.now) c.loop-n.n c.args.peers.now.items c.loop-n.peers.items c.loop-n.invariant.front
    (omega (arith, c.loop-n-test.false, ap length c.requires.keyed, length-map c.args.peers.now.items key_of_peer, c.loop-n.peers.ok.0, c.args.peers.now.ok.0, c.loop-n.invariant.len))
