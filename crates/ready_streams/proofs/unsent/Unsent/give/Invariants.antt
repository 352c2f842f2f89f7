-- So far a front of what waited has passed.
use Rattle.ready_streams.specs.Unsent.{Gives}
use Rattle.ready_streams.proofs.unsent.Unsent.give.Given as goal

abbrev pub invariant-loop : goal.invariant-loop
invariant-loop g l = Gives (g.W.Write.contents l.fn.stream) (g.W.Write.contents l.stream) l.fn.self l.self
