use Rattle.std.proofs.Common.{◌≡◌, ◌++◌, map}
use Rattle.hub_events.specs.declared.out.Said.TheVariants.{Row}
use Rattle.hub_events.specs.declared.listing.Row.TheVariants.{LocalTag}
use Rattle.listing_plans.proofs.list.add_entries.Given as goal

abbrev pub invariant-loop-entry : goal.invariant-loop-entry
invariant-loop-entry l = l.said ≡ l.fn.said ++ map Row (map (LocalTag l.station) l.yielded)
