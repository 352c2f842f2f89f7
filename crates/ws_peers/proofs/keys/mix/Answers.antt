use Rattle.std.proofs.Common.{arith, ◌*◌, ◌+◌}
use Rattle.std.proofs.Math.Nat.{mod-lt}
use Rattle.ws_peers.specs.Routes.{mixed as mixed_key}
use Rattle.ws_peers.proofs.KeyLaws.{folded}
use Rattle.ws_peers.proofs.keys.mix.Goals as goal

pub loop-byte-preserved : goal.loop-byte-preserved
unfolding mixed_key
loop-byte-preserved c = record {
  value = folded mixed_key c.loop-byte.mixed c.from.result c.as_bytes-byte-items.result.now c.loop-byte.byte-index _ c.loop-byte.invariant.value c.loop-byte-test.true c.from.ensures;
  bound = mod-lt (c.loop-byte.mixed * 257 + c.from.result) (omega arith);
}
