use Rattle.std.proofs.Common.{◌≡◌, ◌++◌, take}
use Rattle.replay.specs.Run.{told_lines}
use Rattle.replay.proofs.answers.push_all.Given as goal

abbrev pub invariant-loop-out : goal.invariant-loop-out
invariant-loop-out l = l.text.items ≡ l.fn.text.items ++ told_lines ((take l.out-index l.outs))
