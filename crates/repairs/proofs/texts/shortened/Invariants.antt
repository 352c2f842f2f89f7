use Rattle.std.specs.Str.Iter.{chars_rest}
use Rattle.repairs.proofs.Cut.{Passed}
use Rattle.repairs.proofs.texts.shortened.Given as goal

abbrev pub invariant-loop : goal.invariant-loop
invariant-loop l = Passed l.text l.counter (chars_rest l.rest)
