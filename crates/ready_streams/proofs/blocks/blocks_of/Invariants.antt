-- The blocks so far and the rest are the bytes.
use Rattle.std.proofs.Common.{◌≡◌, ◌++◌, length}
use Rattle.ready_streams.specs.Blocks.{joined, AreSmall, AreFilled}
use Rattle.ready_streams.proofs.blocks.blocks_of.Given as goal

abbrev pub invariant-loop-rest : goal.invariant-loop-rest
invariant-loop-rest l = record {
  bytes : joined l.blocks.items ++ l.rest ≡ l.bytes;
  small : AreSmall l.blocks.items;
  filled : AreFilled l.blocks.items;
}

abbrev pub decreases-loop-rest : goal.decreases-loop-rest
decreases-loop-rest l = length l.rest
