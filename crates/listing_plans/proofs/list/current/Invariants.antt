use Rattle.std.proofs.Common.{◌≡◌}
use Rattle.listing_plans.specs.Listing.{current}
use Rattle.listing_plans.proofs.list.current.Given as goal

abbrev pub invariant-loop-row : goal.invariant-loop-row
invariant-loop-row l = l.list ≡ current l.moment l.yielded
