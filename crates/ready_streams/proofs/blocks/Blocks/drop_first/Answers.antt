-- The next block is small and has bytes, as do those behind it.
use Rattle.ready_streams.proofs.BlockLaws.{popped_small, popped_filled, popped_led}
use Rattle.ready_streams.proofs.blocks.Blocks.drop_first.Goals as goal

pub invariant_of-self : goal.invariant_of-self
invariant_of-self c =
    let was = c.args.self.now in
    record {
      small = popped_small was.first _ _ _ c.in-Some.ensures.items was.small;
      filled = popped_filled _ _ _ c.in-Some.ensures.items was.filled;
      led = popped_led _ _ _ c.in-Some.ensures.items was.filled;
    }
