use Rattle.std.proofs.Common.{arith, ◌∙◌, get_or, refl}
use Rattle.ws_peers.proofs.SweepLaws.{drops_none, drops_more, gone_listed, left_on, listed_still, none_moved, swept}
use Rattle.ws_peers.proofs.sweep.drop_each.Goals as goal

pub loop-place-init : goal.loop-place-init
loop-place-init g c = record {
  drops = drops_none c.args.peers.now.items;
  left = gone_listed c.args.places.now c.args.peers.now.items c.requires.listed;
  listed = c.requires.listed;
  keyed = c.requires.keyed;
  operators = λ e. refl;
  len = omega arith;
}

pub loop-place-preserved : goal.loop-place-preserved
loop-place-preserved g c =
    let places = c.args.places.now in
    let i = c.loop-place.place-index in
    let inv = c.loop-place.invariant in
    let now = c.loop-place.peers.items in
    let new = c.drop_gone-has_moved.new.peers.items in
    let e = c.drop_gone-has_moved.ensures in
    record {
      drops = drops_more c.args.peers.now.items now new inv.drops e.drops;
      left = left_on places i now new (get_or places i 0) c.loop-place-test.true refl e.held e.others inv.left;
      listed = listed_still places i now new (get_or places i 0) c.loop-place-test.true refl e.others inv.listed;
      keyed = e.keyed;
      operators = λ is. let parts = none_moved c.loop-place.has_moved c.drop_gone-has_moved.result is in e.operators parts.1 ∙ inv.operators parts.0;
      len = omega (arith, inv.len, e.len);
    }

pub returns-clause-swept : goal.returns-clause-swept
returns-clause-swept g c = swept c.args.places.now c.loop-place.place-index c.args.peers.now.items c.loop-place.peers.items c.loop-place-test.false c.loop-place.invariant.left c.loop-place.invariant.drops
