use Rattle.std.proofs.Common.{◌≡◌, ◌+◌, length, map}
use Rattle.std.specs.List.{enumerate_from}
use Rattle.listing_plans.specs.Listing.{reading_row}
use Rattle.listing_plans.proofs.list.readings_of.Given as goal

abbrev pub invariant-loop-sampled : goal.invariant-loop-sampled
invariant-loop-sampled l = record {
  number : l.number ≡ l.fn.meter_value.first + length l.yielded;
  list : l.list ≡ map (reading_row l.fn.meter_value) (enumerate_from l.fn.meter_value.first l.yielded);
}
