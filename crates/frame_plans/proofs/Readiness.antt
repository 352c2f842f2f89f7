-- A plan that ends a call is ready whatever the slots are.
use Rattle.std.specs.Prelude.{◌≡◌, ℕ, List, Option, Some, None}
use Rattle.hub_rows.specs.declared.change.Edit.{Edit}
use Rattle.operator_cmds.specs.declared.command.Command.{Command}
use Rattle.hub_events.specs.declared.out.Outcome.{Outcome}
use Rattle.hub_events.specs.declared.out.Outcome.TheVariants as outcome
use Rattle.plans.specs.declared.plan.Plan.{Plan}
use Rattle.pending_calls.specs.Slot.{answered_command}
use Rattle.frame_plans.specs.Answers.{end_plan, failure_plan}
use Rattle.plans.specs.Effects.{StationSlot, IsReady}

pub end_ready : (slot : List ℕ → StationSlot) (station id : List ℕ) (gives : Command → Outcome) (edits : Command → Option Edit) (o : Option Command) → IsReady slot (end_plan station id gives edits o).effect
end_ready slot station id gives edits None = tt
end_ready slot station id gives edits (Some c) = tt

pub failure_ready : (slot : List ℕ → StationSlot) (station id code description : List ℕ) (s : StationSlot) (p : Plan) → p ≡ failure_plan station id code description s → IsReady slot p.effect
failure_ready slot station id code description s p is = rw is (end_ready slot station id (λ c. outcome.Error code description) (λ c. None) (answered_command id s))
