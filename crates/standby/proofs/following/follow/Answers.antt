-- The count of lines is at its end.
use Rattle.standby.proofs.Steps.{stops}
use Rattle.standby.proofs.following.follow.Goals as goal

pub returns-clause-fault : goal.returns-clause-fault
returns-clause-fault g c = λ clean. stops _ _ _ _ _ _ _ c.loop.invariant.followed clean
