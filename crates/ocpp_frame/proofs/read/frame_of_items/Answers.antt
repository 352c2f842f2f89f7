use Rattle.std.proofs.Common.{arith}
use Rattle.ocpp_frame.proofs.Items.{frame_of_items-short}
use Rattle.ocpp_frame.proofs.read.frame_of_items.Goals as goal

pub returns-then-len-lt2 : goal.returns-then-len-lt2
returns-then-len-lt2 c = frame_of_items-short c.args.items.items (omega (arith, c.args.items.ok.0))
