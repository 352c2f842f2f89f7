use Rattle.ocpp_frame.proofs.Items.{call-other}
use Rattle.ocpp_frame.proofs.read.call.Goals as goal

pub returns-in-None : goal.returns-in-None
returns-in-None c = call-other c.args.id c.args.rest.items c.in-None.ensures.none
