use Rattle.std.proofs.Common.{◌≡◌, ◌+◌, drop}
use Rattle.hub_rows.specs.MeterValues.{all_taken}
use Rattle.cached.proofs.reading_answer.last_of.Given as goal

abbrev pub invariant-loop-value : goal.invariant-loop-value
invariant-loop-value l = l.next + all_taken (drop l.value-index l.values) ≡ l.first + all_taken l.values
