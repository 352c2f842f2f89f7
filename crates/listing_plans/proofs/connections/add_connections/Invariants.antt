use Rattle.std.proofs.Common.{◌≡◌, ◌++◌, drop, map}
use Rattle.hub_events.specs.declared.out.Said.TheVariants.{Row}
use Rattle.listing_plans.specs.Listing.{connections}
use Rattle.listing_plans.proofs.connections.add_connections.Given as goal

abbrev pub invariant-loop-slot : goal.invariant-loop-slot
invariant-loop-slot l = l.said ++ map Row (connections (drop l.slot-index l.slots)) ≡ l.fn.said ++ map Row (connections l.slots)
