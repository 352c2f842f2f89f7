use Rattle.std.proofs.Common.{◌≡◌, ◌++◌, map}
use Rattle.hub_events.specs.declared.out.Said.TheVariants.{Row}
use Rattle.listing_plans.proofs.list.add_rows.Given as goal

abbrev pub invariant-loop-row : goal.invariant-loop-row
invariant-loop-row g l = l.said ≡ l.fn.said ++ map Row (map g.R.Shown.as_row l.yielded)
