use Rattle.std.proofs.Common.{◌≡◌, IfOk, subst}
use Rattle.ocpp_frame.proofs.Items.{call_error-other, call_error-some}
use Rattle.ocpp_frame.proofs.read.call_error.Goals as goal

pub returns-in-None : goal.returns-in-None
returns-in-None c = call_error-other c.args.id c.args.rest.items c.in-None.ensures.none

pub returns-in-Some : goal.returns-in-Some
returns-in-Some c =
    let some = c.in-Some.ensures.some in
    subst (λ frame. IfOk c.error_with.result (λ f. f ≡ frame)) (call_error-some c.args.id c.in-Some.code c.in-Some.description c.args.rest.items some.0 some.1 some.2) c.error_with.ensures
