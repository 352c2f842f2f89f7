-- What an event is to say and change, found before it is committed.
use Rattle.std.specs.Prelude.{◌≡◌, true}
use Rattle.hub_rows.specs.StoreView.{StoreView}
use Rattle.station_calls.specs.Vendors.{HandlerView}
use Rattle.hub_events.specs.declared.event.Event.{Event}
use Rattle.hub_events.specs.declared.event.Event.TheVariants.{At, Tick}
use Rattle.pending_calls.specs.Slots.{slot_at}
use Rattle.plans.specs.declared.plan.Plan.{Plan}
use Rattle.plans.specs.Effects.{IsReady}
use Rattle.hub.specs.declared.hub.Hub.{Hub}
use Rattle.hub.specs.Hub.{is_clean, setting, world}
use Rattle.hub.specs.World.{plan_at}

-- the plan is that of the table for the hub as it is, and its slots are ready for it; a tick has none
abbrev pub IsPlanned : {S V : Type 0} → (S → StoreView) → (V → HandlerView) → Hub S V → Event → Plan → Type 0
IsPlanned view handlers h (At b m what) p =
    ((setting handlers h).is_hosted b ≡ true)
    × (is_clean view h → p ≡ plan_at (setting handlers h) (world view h) b m what)
    × IsReady (λ station. slot_at b station h.slots) p.effect
IsPlanned view handlers h (Tick m) p = Unit {0}
