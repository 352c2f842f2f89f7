use Rattle.std.proofs.Common.{List, Ok, Err, arith, rules, length, get_or, refl, subst, ◌∙◌, ◌≤◌, ◌<◌, ◌+◌, ℕ, true, ◌≡◌}
use Rattle.turn_hub.specs.TurnHub.{setting}
use Rattle.hub.specs.World.{Setting}
use Rattle.ws_peers.specs.declared.peer.Peer.{Peer}
use Rattle.ws_server.specs.Steps.{Step}
use Rattle.ws_server.specs.Tells.{peers_of}
use Rattle.ws_server.specs.Turns.{Change, Each, FirstPlaces, Parts}
use Rattle.ws_server.proofs.RecordLaws.{records_more, records_fault, unchanged}
use Rattle.ws_server.proofs.PartLaws.{left_start, up_to, left_on, left_below, left_out, all_left, part_fails}
use Rattle.ws_server.proofs.StepLaws.{changed, counted_more, taken_on, place_more, stayed}
use Rattle.ws_server.proofs.gateway.Gateway.part_at.Goals as goal

pub loop-place-preserved : goal.loop-place-preserved
loop-place-preserved g c =
    let inv = c.loop-place.invariant in
    let e = c.in_ok-part.ensures in
    let hosts = (setting g.V.VendorHandler.view c.args.hub.now).is_hosted in
    let Under : Setting → ℕ → Change (Peer _) = λ st. Parts g.T.Write.contents st.is_hosted c.args.moment in
    let places = c.args.places.now in
    let i = c.loop-place.place-index in
    let n = get_or places i 0 in
    let next = c.loop-place.next in
    let old = peers_of c.args.self.now in
    let mid = peers_of c.loop-place.self in
    let new = peers_of c.part.new.self in
    let here : (i < length places) = grind (arith, c.loop-place.auto, c.loop-place-test.true) in
    let from : next ≤ n = omega (arith, c.if-place-next.false) in
    let within : n < length mid = grind (arith, c.count.ensures, c.if-place-count.false) in
    let now = setting g.V.VendorHandler.view c.args.hub.now in
    let parted : (steps : List Step) → Under (setting g.V.VendorHandler.view c.loop-place.hub) n mid new steps (Ok tt) → Under now n mid new steps (Ok tt) = λ steps change. subst (λ st. Under st n mid new steps (Ok tt)) inv.takes.stays change in
    record {
      takes = taken_on _ _ _ _ _ _ _ _ (λ steps. FirstPlaces (Under (setting g.V.VendorHandler.view c.args.hub.now)) (n + 1) old new steps)
          (λ before after first more. place_more (Under (setting g.V.VendorHandler.view c.args.hub.now)) n old mid new before after
          (up_to g.T.Write.contents hosts c.args.moment places i next old mid before c.requires.ascending here inv.left from within first) (parted after more))
          e.counted.was_clean inv.takes e.takes;
      counted = counted_more g.S.Store.view _ _ _ _ _ inv.counted e.counted;
      records = records_more g.S.Store.view _ _ _ _ _ refl inv.records e.records;
      count = e.count ∙ inv.count;
      small = omega (arith, within, inv.count);
      left = left_on g.T.Write.contents hosts c.args.moment places i next mid new e.takes.steps (Ok tt) here from (parted e.takes.steps e.takes.change) inv.left;
    }

pub loop-place-init : goal.loop-place-init
loop-place-init g c =
    let hosts = (setting g.V.VendorHandler.view c.args.hub.now).is_hosted in
    let old = peers_of c.args.self.now in
    record {
      takes = stayed _ _ _ _ (λ steps. FirstPlaces (Parts g.T.Write.contents hosts c.args.moment) 0 old old steps) (refl, refl);
      counted = search rules;
      records = unchanged g.S.Store.view c.args.hub.now (true ≡ true);
      count = refl;
      small = omega arith;
      left = left_start c.args.places.now old c.requires.listed;
    }

pub loop-place-preserved-then-place-next : goal.loop-place-preserved-then-place-next
loop-place-preserved-then-place-next g c =
    let inv = c.loop-place.invariant in
    let places = c.args.places.now in
    let i = c.loop-place.place-index in
    let here : (i < length places) = grind (arith, c.loop-place.auto, c.loop-place-test.true) in
    record {
      takes = inv.takes;
      counted = inv.counted;
      records = inv.records;
      count = inv.count;
      small = inv.small;
      left = left_below places i c.loop-place.next (peers_of c.loop-place.self) here (omega (arith, c.if-place-next.true)) inv.left;
    }

pub loop-place-preserved-then-place-count : goal.loop-place-preserved-then-place-count
loop-place-preserved-then-place-count g c =
    let inv = c.loop-place.invariant in
    let places = c.args.places.now in
    let i = c.loop-place.place-index in
    let here : (i < length places) = grind (arith, c.loop-place.auto, c.loop-place-test.true) in
    record {
      takes = inv.takes;
      counted = inv.counted;
      records = inv.records;
      count = inv.count;
      small = inv.small;
      left = left_out places i c.loop-place.next (peers_of c.loop-place.self) here (grind (arith, c.count.ensures, c.if-place-count.true)) inv.left;
    }

pub returns-in_err-part-clause-takes : goal.returns-in_err-part-clause-takes
returns-in_err-part-clause-takes g c =
    let inv = c.loop-place.invariant in
    let e = c.in_err-part.ensures in
    let hosts = (setting g.V.VendorHandler.view c.args.hub.now).is_hosted in
    let Under : Setting → ℕ → Change (Peer _) = λ st. Parts g.T.Write.contents st.is_hosted c.args.moment in
    let places = c.args.places.now in
    let i = c.loop-place.place-index in
    let n = get_or places i 0 in
    let next = c.loop-place.next in
    let old = peers_of c.args.self.now in
    let mid = peers_of c.loop-place.self in
    let new = peers_of c.part.new.self in
    let r = c.from_residual.result in
    let fault = c.in_err-part.field-0.0 in
    let here : (i < length places) = grind (arith, c.loop-place.auto, c.loop-place-test.true) in
    let from : next ≤ n = omega (arith, c.if-place-next.false) in
    let within : n < length mid = grind (arith, c.count.ensures, c.if-place-count.false) in
    taken_on _ _ _ _ _ _ _ _ (λ steps. Each (Parts g.T.Write.contents hosts c.args.moment) old new steps r)
    (λ before after first more. part_fails g.T.Write.contents hosts c.args.moment n old mid new before after fault r c.from_residual.ensures.0 c.from_residual.ensures.1 (omega (arith, within, inv.count))
    (up_to g.T.Write.contents hosts c.args.moment places i next old mid before c.requires.ascending here inv.left from within first) (subst (λ st. Under st n mid new after (Err fault)) inv.takes.stays more))
    e.counted.was_clean inv.takes e.takes

pub returns-clause-takes : goal.returns-clause-takes
returns-clause-takes g c =
    let inv = c.loop-place.invariant in
    let hosts = (setting g.V.VendorHandler.view c.args.hub.now).is_hosted in
    let places = c.args.places.now in
    let i = c.loop-place.place-index in
    let old = peers_of c.args.self.now in
    let now = peers_of c.loop-place.self in
    let all : (length places ≤ i) = grind (arith, c.loop-place.auto, c.loop-place-test.false) in
    changed _ _ _ _ _ _ (λ steps. Each (Parts g.T.Write.contents hosts c.args.moment) old now steps (Ok tt))
    (λ steps first. all_left g.T.Write.contents hosts c.args.moment places i c.loop-place.next old now steps all inv.small inv.count inv.left first) inv.takes

pub returns-in_err-part-clause-records : goal.returns-in_err-part-clause-records
returns-in_err-part-clause-records g c = records_fault g.S.Store.view _ _ _ _ _ c.from_residual.result c.from_residual.ensures.0 refl c.loop-place.invariant.records c.in_err-part.ensures.records
