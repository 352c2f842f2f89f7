-- The blocks that were added are small and have bytes.
use Rattle.ready_streams.proofs.BlockLaws.{small_added, filled_added, popped_small, popped_filled, popped_led}
use Rattle.ready_streams.proofs.blocks.Blocks.append_blocks.Goals as goal

pub invariant_of-self-in-Some : goal.invariant_of-self-in-Some
invariant_of-self-in-Some c =
    let was = c.args.self.now in
    let filled = filled_added _ _ _ _ c.append.ensures.items was.filled c.in_ok-blocks.ensures.filled in
    record {
      small = popped_small was.first _ _ _ c.in-Some.ensures.items (small_added _ _ _ _ _ c.append.ensures.items was.small c.in_ok-blocks.ensures.small);
      filled = popped_filled _ _ _ c.in-Some.ensures.items filled;
      led = popped_led _ _ _ c.in-Some.ensures.items filled;
    }

pub invariant_of-self-else-is_empty-clause-small : goal.invariant_of-self-else-is_empty-clause-small
invariant_of-self-else-is_empty-clause-small c = small_added _ _ _ _ _ c.append.ensures.items c.args.self.now.small c.in_ok-blocks.ensures.small

pub invariant_of-self-else-is_empty-clause-filled : goal.invariant_of-self-else-is_empty-clause-filled
invariant_of-self-else-is_empty-clause-filled c = filled_added _ _ _ _ c.append.ensures.items c.args.self.now.filled c.in_ok-blocks.ensures.filled
