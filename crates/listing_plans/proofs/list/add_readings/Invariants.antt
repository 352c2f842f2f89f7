use Rattle.std.proofs.Common.{◌≡◌, ◌++◌, map}
use Rattle.hub_events.specs.declared.out.Said.TheVariants.{Row}
use Rattle.listing_plans.specs.Listing.{reading_rows}
use Rattle.listing_plans.proofs.list.add_readings.Given as goal

abbrev pub invariant-loop-row : goal.invariant-loop-row
invariant-loop-row l = l.said ≡ l.fn.said ++ map Row (reading_rows l.yielded)
