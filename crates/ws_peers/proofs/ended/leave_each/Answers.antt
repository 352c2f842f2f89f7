use Rattle.std.proofs.Common.{arith, ◌∙◌, ◌≡◌, ap, get_or, length, refl}
use Rattle.ws_peers.specs.Peers.{is_open_peer, leaves}
use Rattle.ws_peers.proofs.EndedLaws.{change_start, change_on, change_over, change_end}
use Rattle.ws_peers.proofs.StageLaws.{leaves_open, leaves_twice}
use Rattle.ws_peers.proofs.ended.leave_each.Goals as goal
use Rattle.ws_peers.proofs.ended.leave_each.Goals.{then-place-len, else-place-len}

pub loop-place-init : goal.loop-place-init
loop-place-init g c = record {
  changed = change_start is_open_peer leaves leaves_open leaves_twice c.args.places.now c.args.peers.now.items c.requires;
  len = refl;
}

pub loop-place-preserved : goal.loop-place-preserved
loop-place-preserved g c =
    let places = c.args.places.now in
    let i = c.loop-place.place-index in
    let old = c.args.peers.now.items in
    let now = c.loop-place.peers.items in
    let inv = c.loop-place.invariant in
    let size : length now ≡ length old = omega (arith, inv.len, c.loop-place.peers.ok.0, c.args.peers.now.ok.0) in
    elim c.if-place-len.branch [
      | then-place-len w ↦ rw (w.peers-is) (record {
        changed = change_on is_open_peer leaves leaves_open leaves_twice places i old now (get_or places i 0) w.index_mut.result.now w.leave.new.self c.loop-place-test.true refl
            (omega (arith, w.if-place-len.true, c.len.ensures, c.loop-place.peers.ok.0)) size (w.leave.ensures ∙ ap leaves w.index_mut.ensures.value) inv.changed;
        len = inv.len;
      })
      | else-place-len w ↦ rw (w.peers-is) (record {
        changed = change_over is_open_peer leaves leaves_open leaves_twice places i old now (get_or places i 0) c.loop-place-test.true refl
            (omega (arith, w.if-place-len.false, c.len.ensures, c.loop-place.peers.ok.0)) size inv.changed;
        len = inv.len;
      })
    ]

pub returns-clause-leaves : goal.returns-clause-leaves
returns-clause-leaves g c =
    let inv = c.loop-place.invariant in
    change_end is_open_peer leaves leaves_open leaves_twice c.args.places.now c.loop-place.place-index c.args.peers.now.items c.loop-place.peers.items c.loop-place-test.false
    (omega (arith, inv.len, c.loop-place.peers.ok.0, c.args.peers.now.ok.0)) inv.changed
