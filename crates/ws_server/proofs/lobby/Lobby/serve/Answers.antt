use Rattle.std.proofs.Common.{Err, Ok, arith, subst, ◌∙◌, refl}
use Rattle.ws_server.specs.Admits.{WelcomesOne, WelcomesSome}
use Rattle.ws_server.specs.Lobbies.{origins_of}
use Rattle.ws_server.specs.Steps.{Takes}
use Rattle.ws_server.specs.Tells.{peers_of}
use Rattle.ws_server.proofs.RecordLaws.{records_more, records_fault}
use Rattle.ws_server.proofs.StepLaws.{counted_more, taken_on, welcomes-more, welcomes-fails}
use Rattle.ws_server.proofs.lobby.Lobby.serve.Goals as goal

pub returns-in_err-look-clause-takes : goal.returns-in_err-look-clause-takes
returns-in_err-look-clause-takes g c =
    let inv = c.loop.invariant in
    let origins = origins_of c.args.self.now in
    let e = c.in_err-look.ensures in
    let took = subst (λ o. Takes g.S.Store.view g.V.VendorHandler.view g.W.Write.contents c.loop.hub c.look.new.hub (λ steps. WelcomesOne g.T.Read.remaining g.T.Write.contents c.args.moment o (peers_of c.loop.gateway) (peers_of c.look.new.gateway) steps (Err c.in_err-look.field-0.0))) inv.origins in
    let old = peers_of c.args.gateway.now in
    let mid = peers_of c.loop.gateway in
    let new = peers_of c.look.new.gateway in
    let r = c.from_residual.result in
    taken_on _ _ _ _ _ _ _ _ (λ steps. WelcomesSome g.T.Read.remaining g.T.Write.contents c.args.moment origins old new steps r)
    (λ before after first more. welcomes-fails g.T.Read.remaining g.T.Write.contents c.args.moment origins old mid new before after c.in_err-look.field-0.0 r c.from_residual.ensures.0 c.from_residual.ensures.1 first more)
    e.counted.was_clean inv.takes (took e.takes)

pub loop-preserved : goal.loop-preserved
loop-preserved g c =
    let inv = c.loop.invariant in
    let origins = origins_of c.args.self.now in
    let e = c.in_ok-look.ensures in
    let took = subst (λ o. Takes g.S.Store.view g.V.VendorHandler.view g.W.Write.contents c.loop.hub c.look.new.hub (λ steps. WelcomesOne g.T.Read.remaining g.T.Write.contents c.args.moment o (peers_of c.loop.gateway) (peers_of c.look.new.gateway) steps (Ok c.in_ok-look.field-0))) inv.origins in
    let old = peers_of c.args.gateway.now in
    let mid = peers_of c.loop.gateway in
    let new = peers_of c.look.new.gateway in
    record {
      takes = taken_on _ _ _ _ _ _ _ _ (λ steps. WelcomesSome g.T.Read.remaining g.T.Write.contents c.args.moment origins old new steps (Ok tt))
          (λ before after first more. welcomes-more g.T.Read.remaining g.T.Write.contents c.args.moment origins old mid new before after first more) e.counted.was_clean inv.takes (took e.takes);
      counted = counted_more g.S.Store.view _ _ _ _ _ inv.counted e.counted;
      records = records_more g.S.Store.view _ _ _ _ _ refl inv.records e.records;
      fewer = omega (arith, e.fewer, inv.fewer);
      origins = e.origins ∙ inv.origins;
    }

pub returns-in_err-look-clause-records : goal.returns-in_err-look-clause-records
returns-in_err-look-clause-records g c = records_fault g.S.Store.view _ _ _ _ _ c.from_residual.result c.from_residual.ensures.0 refl c.loop.invariant.records c.in_err-look.ensures.records
