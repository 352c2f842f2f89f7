use Rattle.std.proofs.Common.{subst, sym, ◌∙◌}
use Rattle.std.proofs.lemmas.Result.{IfOk-weaker}
use Rattle.json_data.specs.View.{view}
use Rattle.repairs.specs.Tolerant.{IsWritten}
use Rattle.repairs.proofs.SecondReading.{after_second-written}
use Rattle.repairs.proofs.tolerant.read_tolerant.Goals as goal

pub returns-in-Err-clause-written : goal.returns-in-Err-clause-written
returns-in-Err-clause-written c =
    let action = c.args.action in
    let moment = c.args.moment in
    let text = c.args.text.now in
    let sent = view c.args.payload.now in
    let written = after_second-written action moment text sent c.in-Err.fault (sym c.in_ok-request.ensures ∙ c.in-Err.is) in
    IfOk-weaker c.read_repaired.result _ _ (λ r e. subst (IsWritten action moment text sent) (sym e) written) c.read_repaired.ensures
