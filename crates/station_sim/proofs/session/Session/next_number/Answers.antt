use Rattle.std.proofs.Common.{◌+◌}
use Rattle.station_sim.proofs.Ids.{id_short}
use Rattle.station_sim.proofs.Keeps.{may_call}
use Rattle.station_sim.proofs.session.Session.next_number.Goals as goal

pub returns-clause-short : goal.returns-clause-short
returns-clause-short c = id_short (c.args.self.now.calls + 1) (may_call c.args.self.now c.requires.more)
