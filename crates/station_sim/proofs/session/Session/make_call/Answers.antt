use Rattle.std.proofs.Common.{subst, sym}
use Rattle.station_sim.specs.Written.{AreWritable}
use Rattle.station_sim.proofs.Writable.{due_writable}
use Rattle.station_sim.proofs.session.Session.make_call.Goals as goal

pub call_text-requires-clause-writable : goal.call_text-requires-clause-writable
call_text-requires-clause-writable c =
    let due = rw c.in-Some.is at c.in_ok-call.ensures in
    subst AreWritable (sym due) (due_writable c.args.self.now c.args.at)
