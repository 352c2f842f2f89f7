use Rattle.std.proofs.Common.{◌≡◌, drop}
use Rattle.std.specs.Prelude.{max}
use Rattle.hub_rows.specs.Keyed.{greatest}
use Rattle.store_mem.proofs.numbers.greatest.Given as goal

abbrev pub invariant-loop-number : goal.invariant-loop-number
invariant-loop-number l = max l.last (greatest (drop l.number-index l.numbers)) ≡ greatest l.numbers
