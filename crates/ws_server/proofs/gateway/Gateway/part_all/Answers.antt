use Rattle.std.proofs.Common.{Err, Ok, arith, length, subst, ◌∙◌, ◌+◌, ◌<◌, ℕ, refl}
use Rattle.turn_hub.specs.TurnHub.{setting}
use Rattle.hub.specs.World.{Setting}
use Rattle.ws_peers.specs.declared.peer.Peer.{Peer}
use Rattle.ws_server.specs.Tells.{peers_of}
use Rattle.ws_server.specs.Turns.{Change, Each, FirstPlaces, Parts}
use Rattle.ws_server.proofs.RecordLaws.{records_more, records_fault}
use Rattle.ws_server.proofs.PartLaws.{part_fails}
use Rattle.ws_server.proofs.StepLaws.{counted_more, taken_on, place_more}
use Rattle.ws_server.proofs.gateway.Gateway.part_all.Goals as goal

pub loop-n-preserved : goal.loop-n-preserved
loop-n-preserved g c =
    let inv = c.loop-n.invariant in
    let e = c.in_ok-part.ensures in
    let Under : Setting → ℕ → Change (Peer _) = λ st. Parts g.T.Write.contents st.is_hosted c.args.moment in
    let C = Under (setting g.V.VendorHandler.view c.args.hub.now) in
    record {
      takes = taken_on _ _ _ _ _ _ _ _ (λ steps. FirstPlaces C (c.loop-n.n + 1) (peers_of c.args.self.now) (peers_of c.part.new.self) steps)
          (λ before after first more. place_more C c.loop-n.n _ (peers_of c.loop-n.self) (peers_of c.part.new.self) before after first (subst (λ st. Under st c.loop-n.n (peers_of c.loop-n.self) (peers_of c.part.new.self) after (Ok tt)) inv.takes.stays more)) e.counted.was_clean inv.takes e.takes;
      counted = counted_more g.S.Store.view _ _ _ _ _ inv.counted e.counted;
      records = records_more g.S.Store.view _ _ _ _ _ refl inv.records e.records;
      count = e.count ∙ inv.count;
      end = inv.end;
    }

pub returns-in_err-part-clause-takes : goal.returns-in_err-part-clause-takes
returns-in_err-part-clause-takes g c =
    let inv = c.loop-n.invariant in
    let e = c.in_err-part.ensures in
    let hosts = (setting g.V.VendorHandler.view c.args.hub.now).is_hosted in
    let Under : Setting → ℕ → Change (Peer _) = λ st. Parts g.T.Write.contents st.is_hosted c.args.moment in
    let n = c.loop-n.n in
    let old = peers_of c.args.self.now in
    let mid = peers_of c.loop-n.self in
    let new = peers_of c.part.new.self in
    let r = c.from_residual.result in
    let fault = c.in_err-part.field-0.0 in
    let here : (n < length old) = grind (arith, c.loop-n-test.true, inv.end) in
    taken_on _ _ _ _ _ _ _ _ (λ steps. Each (Parts g.T.Write.contents hosts c.args.moment) old new steps r)
    (λ before after first more. part_fails g.T.Write.contents hosts c.args.moment n old mid new before after fault r c.from_residual.ensures.0 c.from_residual.ensures.1 here
    first (subst (λ st. Under st n mid new after (Err fault)) inv.takes.stays more))
    e.counted.was_clean inv.takes e.takes

pub returns-in_err-part-clause-records : goal.returns-in_err-part-clause-records
returns-in_err-part-clause-records g c = records_fault g.S.Store.view _ _ _ _ _ c.from_residual.result c.from_residual.ensures.0 refl c.loop-n.invariant.records c.in_err-part.ensures.records
