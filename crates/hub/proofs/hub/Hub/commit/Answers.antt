use Rattle.hub.specs.Hub.{setting}
use Rattle.hub.proofs.hub.Hub.commit.Goals as goal

pub returns-in_err-expire_all-in-Tick-clause-setting : goal.returns-in_err-expire_all-in-Tick-clause-setting
unfolding setting
returns-in_err-expire_all-in-Tick-clause-setting g c = λ i. record (setting g.V.VendorHandler.view c.args.self.now) { first_number = c.expire_all.ensures.number i }

pub returns-in_ok-expire_all-in-Tick-clause-setting : goal.returns-in_ok-expire_all-in-Tick-clause-setting
unfolding setting
returns-in_ok-expire_all-in-Tick-clause-setting g c = λ i. record (setting g.V.VendorHandler.view c.args.self.now) { first_number = c.expire_all.ensures.number i }
