use Rattle.ready_streams.specs.Shares.{IsLeastBelow}
use Rattle.ready_streams.proofs.shares.Shares.next.Given as goal

abbrev pub invariant-loop-owner : goal.invariant-loop-owner
invariant-loop-owner l = IsLeastBelow l.owner l.self l.waits l.now l.best
