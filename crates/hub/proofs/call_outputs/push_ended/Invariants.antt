use Rattle.std.proofs.Common.{◌≡◌, ◌+◌, ◌≤◌, ◌++◌, length, map, vec_len, vec_capacity}
use Rattle.hub_events.specs.declared.out.Outcome.TheVariants.{Disconnected}
use Rattle.hub.specs.Effects.{done}
use Rattle.hub.proofs.call_outputs.push_ended.Given as goal

abbrev pub invariant-loop-call : goal.invariant-loop-call
invariant-loop-call l = record {
  all : l.outs.items ++ map (done Disconnected) l.ended ≡ l.fn.outs.items ++ map (done Disconnected) l.fn.ended;
  len : vec_len l.outs + length l.ended ≡ vec_len l.fn.outs + length l.fn.ended;
  room : vec_len l.outs + length l.ended ≤ vec_capacity l.outs;
}

abbrev pub decreases-loop-call : goal.decreases-loop-call
decreases-loop-call l = length l.ended
