use Rattle.station_sim.proofs.Keeps.{heard}
use Rattle.station_sim.proofs.sim.Sim.on_text.Goals as goal

pub invariant_of-self : goal.invariant_of-self
invariant_of-self c =
    let session = c.args.self.now.session in
    record { good = heard session _ c.in_ok-frame.frame c.hear.result c.args.self.now.good c.hear.ensures.ok c.hear.ensures.err }
