-- A plan that submits no command is ready whatever the slots are.
use Rattle.std.specs.Prelude.{◌≡◌, true, false, cond, ℕ, List, Option, Some, None, Result, Ok, Err, IfOk}
use Rattle.ocpp_types.specs.declared.refusal.Refusal.{Refusal}
use Rattle.hub_rows.specs.declared.change.Edit.{Edit}
use Rattle.hub_rows.specs.declared.change.Edit.TheVariants.{Transactions}
use Rattle.hub_rows.specs.declared.change.TransactionEdit.TheVariants.{Forgotten}
use Rattle.hub_rows.specs.Forgetting.{has_no_rows, numbers_of}
use Rattle.hub_rows.specs.declared.forgettable.History.{History}
use Rattle.plans.specs.declared.plan.Effect.TheVariants as effect
use Rattle.hub_rows.specs.declared.store.StoreFault.{StoreFault}
use Rattle.hub_rows.specs.declared.station_row.Registration.{Registration}
use Rattle.ocpp_payload.specs.declared.action.Action.{Action}
use Rattle.ocpp_payload.specs.declared.fault.FieldFault.{FieldFault}
use Rattle.registry.specs.declared.decision.Decision.{Decision}
use Rattle.hub_events.specs.declared.event.HistoryEnds.{HistoryEnds}
use Rattle.hub_events.specs.declared.listing.Row.{Row}
use Rattle.plans.specs.declared.plan.Plan.{Plan}
use Rattle.plans.specs.Effects.{StationSlot, IsReady, edit_effect}
use Rattle.plans.specs.Plans.{connect_plan, decided_plan, repaired_plan, edit_plan, forget_plan, forgetting, list_plan, up_to_ends}

pub connect_ready : (slot : List ℕ → StationSlot) (station : List ℕ) (o : Option Registration) (p : Plan) → p ≡ connect_plan station o → IsReady slot p.effect
connect_ready slot station None p is = rw is tt
connect_ready slot station (Some r) p is = rw is tt

pub edit_ready : (slot : List ℕ → StationSlot) (answer : Result Edit Refusal) (p : Plan) → p ≡ edit_plan answer → IsReady slot p.effect
edit_ready slot (Ok e) p is = rw is tt
edit_ready slot (Err refusal) p is = rw is tt

forgetting_ready : (slot : List ℕ → StationSlot) (station : List ℕ) (gone : History) → IsReady slot (forgetting station gone)
forgetting_ready slot station gone =
    elim (has_no_rows gone) as (λ b. IsReady slot (cond b effect.Nothing (effect.Edit (Transactions (Forgotten station (numbers_of gone)))))) [ true ↦ tt | false ↦ tt ]

pub forget_ready : (slot : List ℕ → StationSlot) (station : List ℕ) (ends : Option HistoryEnds) (answer : Result History Refusal) (p : Plan) → p ≡ forget_plan station ends answer → IsReady slot p.effect
forget_ready slot station ends (Ok h) p is = rw is (forgetting_ready slot station (up_to_ends ends h))
forget_ready slot station ends (Err refusal) p is = rw is tt

pub list_ready : (slot : List ℕ → StationSlot) (rows : List Row) (p : Plan) → p ≡ list_plan (Ok rows) → IsReady slot p.effect
list_ready slot rows p is = rw is tt

effect_ready : (slot : List ℕ → StationSlot) (o : Option Edit) → IsReady slot (edit_effect o)
effect_ready slot None = tt
effect_ready slot (Some e) = tt

pub decided_ready : (slot : List ℕ → StationSlot) (station id : List ℕ) (d : Decision) (p : Plan) → p ≡ decided_plan station id d → IsReady slot p.effect
decided_ready slot station id d p is = rw is (effect_ready slot d.edit)

pub repaired_ready : (slot : List ℕ → StationSlot) (station id : List ℕ) (action : Action) (fault : FieldFault) (d : Decision) (p : Plan) → p ≡ repaired_plan station id action fault d → IsReady slot p.effect
repaired_ready slot station id action fault d p is = rw is (effect_ready slot d.edit)

-- what is ready whatever the slots are is ready at those of an operator
pub ready_at : (slot : List ℕ → StationSlot) (r : Result Plan StoreFault) → IfOk r (λ p. (any : List ℕ → StationSlot) → IsReady any p.effect) → IfOk r (λ p. IsReady slot p.effect)
ready_at slot (Ok p) ready = ready slot
ready_at slot (Err fault) ready = tt
