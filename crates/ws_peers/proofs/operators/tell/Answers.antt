use Rattle.std.proofs.Common.{arith, option_map, refl, subst, get_or, sym, ◌∙◌, ◌∷◌, ap, if◌then◌else◌}
use Rattle.ws_peers.specs.Lists.{ForText, Hears}
use Rattle.ws_peers.specs.Peers.{FailsOnlyAt, is_open_peer, is_operator_peer}
use Rattle.ws_peers.specs.Stages.{is_open}
use Rattle.ws_peers.proofs.EndedLaws.{listed_set}
use Rattle.ws_peers.proofs.ListLaws.{for_stays}
use Rattle.ws_peers.proofs.PlaceLaws.{walk_start, walk_within, walk_on, walk_end}
use Rattle.ws_peers.proofs.operators.tell.Goals as goal

pub loop-place-init : goal.loop-place-init
loop-place-init g c = record {
  walked = walk_start is_operator_peer _ (for_stays g.T.Write.contents c.args.op.now (option_map (λ t. t.now) c.args.text)) _ _ _ refl c.requires.places;
  len = refl;
  room = c.requires.room;
  listed = c.requires.listed;
}

pub loop-place-preserved : goal.loop-place-preserved
loop-place-preserved g c = record {
  walked = walk_on is_operator_peer _ (for_stays g.T.Write.contents c.args.op.now (option_map (λ t. t.now) c.args.text)) c.loop-place.place-index c.args.places.now c.args.peers.now.items c.loop-place.peers.items _ c.index_mut-peer.result.now _ c.loop-place.invariant.walked c.loop-place-test.true refl
      (subst (λ p. ForText (option_map (λ t. t.now) c.args.text) (λ t. Hears g.T.Write.contents c.args.op.now t p c.hear.new.self)) c.index_mut-peer.ensures.value c.hear.ensures.heard);
  len = c.loop-place.invariant.len;
  room = omega (arith, c.loop-place.invariant.room, c.list_ended.ensures.capacity);
  listed = subst (FailsOnlyAt is_open_peer c.list_ended.new.ended.items) c.deref.ensures.value c.list_ended.ensures.listed;
}

pub index_mut-peer-requires : goal.index_mut-peer-requires
index_mut-peer-requires g c =
    let within = walk_within is_operator_peer _ (for_stays g.T.Write.contents c.args.op.now (option_map (λ t. t.now) c.args.text)) c.loop-place.place-index c.args.places.now c.args.peers.now.items c.loop-place.peers.items _ c.loop-place.invariant.walked c.loop-place-test.true refl in
    omega (arith, within, c.loop-place.peers.ok.0)

pub list_ended-requires-clause-others : goal.list_ended-requires-clause-others
list_ended-requires-clause-others g c =
    let place = get_or c.args.places.now c.loop-place.place-index 0 in
    let was = c.is_open-was_open.result in
    subst (FailsOnlyAt is_open_peer (if was then place ∷ c.loop-place.ended.items else c.loop-place.ended.items)) (sym c.deref.ensures.value)
    (listed_set c.loop-place.ended.items c.loop-place.peers.items place c.index_mut-peer.result.now c.hear.new.self was
    (c.is_open-was_open.ensures ∙ ap is_open c.stage.ensures ∙ ap is_open_peer c.index_mut-peer.ensures.value) c.loop-place.invariant.listed)

pub returns : goal.returns
returns g c = record {
  heard = walk_end is_operator_peer _ (for_stays g.T.Write.contents c.args.op.now (option_map (λ t. t.now) c.args.text)) c.loop-place.place-index c.args.places.now _ _ c.loop-place.invariant.walked c.loop-place-test.false;
  len = c.loop-place.invariant.len;
  room = c.loop-place.invariant.room;
  listed = c.loop-place.invariant.listed;
}
