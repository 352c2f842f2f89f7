use Rattle.std.proofs.Common.{arith, ◌∙◌, ◌≡◌, ap, refl, sym, true}
use Rattle.ws_peers.specs.Peers.{fails_at, is_held_peer}
use Rattle.ws_peers.proofs.EndedLaws.{fails_within}
use Rattle.ws_peers.proofs.SweepLaws.{drops_none, drop_on, none_moved}
use Rattle.ws_peers.proofs.sweep.drop_gone.Goals as goal

pub loop-peers-init : goal.loop-peers-init
loop-peers-init g c = record {
  drops = drops_none c.args.peers.now.items;
  others = λ test n differs fails. fails;
  keyed = c.requires;
  operators = λ e. refl;
  len = omega arith;
}

pub drop_at-has_moved-requires-clause-there : goal.drop_at-has_moved-requires-clause-there
drop_at-has_moved-requires-clause-there g c =
    let gone : fails_at is_held_peer c.loop-peers.peers.items c.args.place ≡ true = sym (ap (λ ps. fails_at is_held_peer ps c.args.place) c.deref.ensures.value) ∙ sym c.is_gone_at.ensures ∙ c.loop-peers-test.true in
    fails_within is_held_peer c.loop-peers.peers.items c.args.place gone

pub loop-peers-preserved : goal.loop-peers-preserved
loop-peers-preserved g c =
    let inv = c.loop-peers.invariant in
    let gone : fails_at is_held_peer c.loop-peers.peers.items c.args.place ≡ true = sym (ap (λ ps. fails_at is_held_peer ps c.args.place) c.deref.ensures.value) ∙ sym c.is_gone_at.ensures ∙ c.loop-peers-test.true in
    record {
      drops = drop_on c.args.peers.now.items c.loop-peers.peers.items c.drop_at-has_moved.new.peers.items c.args.place gone c.drop_at-has_moved.ensures.dropped inv.drops;
      others = λ test n differs fails. inv.others test n differs (c.drop_at-has_moved.ensures.others test n differs fails);
      keyed = c.drop_at-has_moved.ensures.keyed;
      operators = λ e. let parts = none_moved c.loop-peers.has_moved c.drop_at-has_moved.result e in c.drop_at-has_moved.ensures.operators parts.1 ∙ inv.operators parts.0;
      len = omega (arith, inv.len, c.drop_at-has_moved.ensures.len);
    }

pub returns : goal.returns
returns g c =
    let inv = c.loop-peers.invariant in
    record {
      drops = inv.drops;
      held = sym (ap (λ ps. fails_at is_held_peer ps c.args.place) c.deref.ensures.value) ∙ sym c.is_gone_at.ensures ∙ c.loop-peers-test.false;
      others = inv.others;
      keyed = inv.keyed;
      operators = inv.operators;
      len = inv.len;
    }
