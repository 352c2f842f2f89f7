use Rattle.std.proofs.Common.{refl}
use Rattle.turn_hub.specs.TurnHub.{setting}
use Rattle.ws_server.proofs.StepLaws.{stayed, stays}
use Rattle.ws_server.proofs.gateway.Gateway.part.Goals as goal

pub returns-in_err-event-clause-takes : goal.returns-in_err-event-clause-takes
returns-in_err-event-clause-takes g c = stayed _ _ _ _ _ (stays g.T.Write.contents (setting g.V.VendorHandler.view c.args.hub.now).is_hosted c.args.moment c.args.n _ c.peer.result.now c.from_residual.result c.from_residual.ensures.0 c.from_residual.ensures.1 c.in_err-event.ensures.leaves c.peer.ensures)
