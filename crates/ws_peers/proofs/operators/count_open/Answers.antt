use Rattle.std.proofs.Common.{arith, ◌∙◌, ◌+◌, ap, false, refl, sym, true}
use Rattle.ws_peers.specs.Lists.{is_open_for}
use Rattle.ws_peers.specs.Peers.{is_operator_peer}
use Rattle.ws_peers.proofs.ListLaws.{no_operator}
use Rattle.ws_peers.proofs.PlaceLaws.{count_start, count_within, count_on, count_end}
use Rattle.ws_peers.proofs.operators.count_open.Goals as goal
use Rattle.ws_peers.proofs.operators.count_open.Goals.{then-is_open_for, else-is_open_for}

pub loop-place-init : goal.loop-place-init
loop-place-init g c = record {
  counted = count_start is_operator_peer (is_open_for c.args.op.now) (no_operator c.args.op.now) c.args.places.now c.args.peers.now c.requires;
  few = omega arith;
}

pub bounds-peers-place : goal.bounds-peers-place
bounds-peers-place g c = count_within is_operator_peer (is_open_for c.args.op.now) (no_operator c.args.op.now) c.loop-place.place-index c.args.places.now c.args.peers.now c.loop-place.count c.loop-place.invariant.counted c.loop-place-test.true

pub offset_bounds-peers-place : goal.offset_bounds-peers-place
offset_bounds-peers-place g c =
    let within = count_within is_operator_peer (is_open_for c.args.op.now) (no_operator c.args.op.now) c.loop-place.place-index c.args.places.now c.args.peers.now c.loop-place.count c.loop-place.invariant.counted c.loop-place-test.true in
    omega (arith, within)

pub loop-place-preserved : goal.loop-place-preserved
loop-place-preserved g c =
    let inv = c.loop-place.invariant in
    elim c.if-is_open_for.branch [
      | then-is_open_for w ↦ rw (w.count-is) (record {
        counted = count_on is_operator_peer (is_open_for c.args.op.now) (no_operator c.args.op.now) c.loop-place.place-index c.args.places.now c.args.peers.now c.loop-place.count (c.loop-place.count + 1) c.index-peers-place.result true inv.counted c.loop-place-test.true
            (sym w.if-is_open_for.true ∙ c.is_open_for.ensures ∙ ap (is_open_for c.args.op.now) c.index-peers-place.is) refl;
        few = omega (arith, inv.few);
      })
      | else-is_open_for w ↦ rw (w.count-is) (record {
        counted = count_on is_operator_peer (is_open_for c.args.op.now) (no_operator c.args.op.now) c.loop-place.place-index c.args.places.now c.args.peers.now c.loop-place.count c.loop-place.count c.index-peers-place.result false inv.counted c.loop-place-test.true
            (sym w.if-is_open_for.false ∙ c.is_open_for.ensures ∙ ap (is_open_for c.args.op.now) c.index-peers-place.is) refl;
        few = omega (arith, inv.few);
      })
    ]

pub returns : goal.returns
returns g c = count_end is_operator_peer (is_open_for c.args.op.now) (no_operator c.args.op.now) c.loop-place.place-index c.args.places.now c.args.peers.now c.loop-place.count c.loop-place.invariant.counted c.loop-place-test.false
