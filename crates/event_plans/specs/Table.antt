-- How each event of an operator is answered: a plan, made of that operator's own look-ups and slots.
use Rattle.std.specs.Prelude.{ℕ, List, Bool, Ok}
use Rattle.charging.specs.Forget.{forget_rule}
use Rattle.registry.specs.StationDropped.{station_drop_rule}
use Rattle.station_calls.specs.Vendors.{Answers}
use Rattle.hub_events.specs.declared.event.What.{What}
use Rattle.hub_events.specs.declared.event.What.TheVariants as what
use Rattle.plans.specs.declared.plan.Plan.{Plan}
use Rattle.listing_plans.specs.Listing.{connections, rows_rule}
use Rattle.operator_plans.specs.Commands.{command_plan, command_rule}
use Rattle.plans.specs.Facts.{Facts}
use Rattle.frame_plans.specs.Frames.{text_plan}
use Rattle.operator_plans.specs.Requests.{admin_rule}
use Rattle.plans.specs.Plans.{connect_plan, disconnect_plan, edit_plan, forget_plan, list_plan}

-- the plan of each event of an operator, by which operators are hosted and what vendors' messages are
-- answered
abbrev pub plan : (List ℕ → Bool) → Answers → What → ℕ → Facts → Plan
plan is_hosted answers (what.Connect station) m f = connect_plan station (f.lookups.registration station)
plan is_hosted answers (what.Disconnect station) m f = disconnect_plan station
plan is_hosted answers (what.Frame station text) m f = text_plan answers station text m f
plan is_hosted answers (what.Do station command) m f = command_plan station command (command_rule station command (f.lookups.registration station) f.slots (f.slot station) m f.lookups)
plan is_hosted answers (what.Admin a) m f = edit_plan (admin_rule is_hosted a m f.lookups)
plan is_hosted answers (what.DropStation station) m f = edit_plan (station_drop_rule station (f.slot station).is_connected m f.lookups)
plan is_hosted answers (what.List listing) m f = list_plan (rows_rule listing m f.lookups)
plan is_hosted answers what.Connections m f = list_plan (Ok (connections f.slots))
plan is_hosted answers (what.Forget station until ends) m f = forget_plan station ends (forget_rule station until m f.lookups)
