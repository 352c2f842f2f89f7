use Rattle.std.proofs.Common.{sym}
use Rattle.store_mem.proofs.OpenLaws.{many-other}
use Rattle.store_mem.proofs.open.has_other.Goals as goal

pub returns-in-len2-up : goal.returns-in-len2-up
returns-in-len2-up c = sym (many-other c.args.except.now c.args.opens.now c.in-len2-up.len_at_least c.requires)
