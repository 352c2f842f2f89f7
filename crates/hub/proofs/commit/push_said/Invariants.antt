use Rattle.std.proofs.Common.{◌≡◌, ◌++◌, map}
use Rattle.hub.specs.World.{said_to}
use Rattle.hub.proofs.commit.push_said.Given as goal

abbrev pub invariant-loop-said : goal.invariant-loop-said
invariant-loop-said l = l.outs.items ≡ l.fn.outs.items ++ map (said_to l.op) l.yielded
