-- The last block is small, and has the bytes at its end.
use Rattle.std.proofs.Common.{refl, arith}
use Rattle.ready_streams.proofs.BlockLaws.{small_set, small_grown, filled_grown, same_read, joined_grown}
use Rattle.ready_streams.proofs.blocks.Blocks.append.Goals as goal

pub invariant_of-self-then-fits-2-clause-small : goal.invariant_of-self-then-fits-2-clause-small
invariant_of-self-then-fits-2-clause-small c =
    let same = same_read c.args.self.now.later.items c.in-Some.last _ _ (omega arith) c.index.ensures c.index_mut.ensures.value in
    small_set _ _ _ _ (small_grown _ c.index.result.now c.index_mut.result.now c.extend-in-Some.new.block _ (c.if-fits-2.ensures refl) same c.extend-in-Some.ensures) c.args.self.now.small

pub invariant_of-self-then-fits-2-clause-filled : goal.invariant_of-self-then-fits-2-clause-filled
invariant_of-self-then-fits-2-clause-filled c = filled_grown _ c.args.self.now.later.items c.in-Some.last c.index_mut.result.now c.extend-in-Some.new.block c.args.bytes.now (omega arith) c.index_mut.ensures.value c.extend-in-Some.ensures c.args.self.now.filled

pub returns-in-Some-clause-bytes : goal.returns-in-Some-clause-bytes
returns-in-Some-clause-bytes c = joined_grown _ c.args.self.now.first.items c.args.self.now.later.items c.in-Some.last _ _ c.args.bytes.now (omega arith) c.index_mut.ensures.value c.extend-in-Some.ensures
