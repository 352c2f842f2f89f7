use Rattle.std.proofs.Common.{arith}
use Rattle.ocpp_frame.proofs.Items.{call_result-other}
use Rattle.ocpp_frame.proofs.read.call_result.Goals as goal

pub returns-then-len-ne1 : goal.returns-then-len-ne1
returns-then-len-ne1 c = call_result-other c.args.id c.args.rest.items (λ one. c.if-len-ne1.true (omega (arith, c.args.rest.ok.0)))
