use Rattle.std.proofs.Common.{◌≡◌, ◌*◌, pos, Some, subst}
use Rattle.ocpp_types.specs.Time.{time_of}
use Rattle.station_sim.proofs.Keeps.{after_either}
use Rattle.station_sim.proofs.Read.{due_read, whatever}
use Rattle.station_sim.proofs.sim.Sim.step.Goals as goal

pub invariant_of-self : goal.invariant_of-self
invariant_of-self c =
    let session = c.args.self.now.session in
    record { good = after_either session _ c.args.at c.make_call.result c.args.self.now.good c.make_call.ensures.ok c.make_call.ensures.err }

pub returns-clause-read : goal.returns-clause-read
returns-clause-read c =
    let printed = c.in_ok-time.ensures in
    let ms = pos (c.args.at * 1000) in
    whatever c.make_call.result (λ within.
    due_read c.args.self.now.session c.args.at ms c.args.self.now.good (subst (λ t. time_of t ≡ Some ms) printed.text (printed.reads_back within)))
