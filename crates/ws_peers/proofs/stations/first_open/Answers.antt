use Rattle.std.proofs.Common.{arith, ap, length, sym, ◌∙◌, below_more, get_or}
use Rattle.std.proofs.lemmas.List.{length-map, get_or_default}
use Rattle.ws_peers.specs.Lists.{is_open_at}
use Rattle.ws_peers.specs.Peers.{key_of_peer}
use Rattle.ws_peers.proofs.KeyLaws.{first_found, none_found, other_station, not_open_at}
use Rattle.ws_peers.proofs.stations.first_open.Goals as goal
use Rattle.ws_peers.proofs.stations.first_open.Goals.{else-key-wanted-via-then-key-wanted+else-is_open_at, else-key-wanted-via-else-key-wanted}

pub returns-then-is_open_at : goal.returns-then-is_open_at
returns-then-is_open_at g c = first_found (is_open_at c.args.op.now c.args.station.now) c.args.peers.now c.loop-n.n c.index-peers-n.result (c.loop-n.invariant c.index-peers-n.result)
    (omega (arith, c.loop-n-test.true, ap length c.requires, length-map c.args.peers.now key_of_peer)) (ap (is_open_at c.args.op.now c.args.station.now) (sym c.index-peers-n.is) ∙ sym c.is_open_at.ensures ∙ c.if-is_open_at.true)

pub loop-n-preserved : goal.loop-n-preserved
loop-n-preserved g c = λ d. below_more _ _ (c.loop-n.invariant d)
    (elim c.else-key-wanted.branch [
      | else-key-wanted-via-then-key-wanted+else-is_open_at w ↦ ap (is_open_at c.args.op.now c.args.station.now) (get_or_default c.args.peers.now c.loop-n.n d w.index-peers-n.result (omega (arith, c.loop-n-test.true, ap length c.requires, length-map c.args.peers.now key_of_peer)) ∙ sym w.index-peers-n.is) ∙ sym w.is_open_at.ensures ∙ w.if-is_open_at.false
      | else-key-wanted-via-else-key-wanted w ↦ not_open_at c.args.op.now c.args.station.now (get_or c.args.peers.now c.loop-n.n d) (other_station c.args.op.now c.args.station.now c.args.keys.now c.args.peers.now c.loop-n.n c.station_key-wanted.result d c.requires (omega (arith, c.loop-n-test.true, ap length c.requires, length-map c.args.peers.now key_of_peer)) c.station_key-wanted.ensures w.if-key-wanted.false)
    ])

pub returns : goal.returns
returns g c = none_found (is_open_at c.args.op.now c.args.station.now) c.args.peers.now c.loop-n.n c.loop-n.invariant (omega (arith, c.loop-n-test.false, ap length c.requires, length-map c.args.peers.now key_of_peer))
