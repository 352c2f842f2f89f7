-- How the answer of a station ends a call.
use Rattle.std.specs.Prelude.{ℕ, List, if◌then◌else◌, Option, Some, None, Result, Ok, Err}
use Rattle.serde_json.specs.Data.{Data}
use Rattle.serde_json.specs.Written.{compact_text}
use Rattle.ocpp_payload.specs.declared.fault.FieldFault.{FieldFault}
use Rattle.hub_rows.specs.declared.change.Edit.{Edit}
use Rattle.hub_rows.specs.Lookups.{Lookups}
use Rattle.holdings.specs.Accepted.{edit_when_accepted}
use Rattle.operator_cmds.specs.Answer.{is_accepted, known_members}
use Rattle.operator_cmds.specs.declared.command.Command.{Command}
use Rattle.pending_calls.specs.Slot.{answered_command}
use Rattle.hub_events.specs.declared.out.Outcome.{Outcome}
use Rattle.hub_events.specs.declared.out.Outcome.TheVariants as outcome
use Rattle.plans.specs.declared.plan.Effect.TheVariants as effect
use Rattle.plans.specs.declared.plan.Plan.{Plan}
use Rattle.plans.specs.Effects.{StationSlot}
use Rattle.plans.specs.Plans.{nothing, changing}

-- the text of the known members of an answer, or its first fault
unfoldable pub read_outcome : Result Data FieldFault → Outcome
read_outcome (Ok known) = outcome.Answer (compact_text known)
read_outcome (Err fault) = outcome.BadAnswer fault.code fault.field

-- the outcome of a call that is answered with a result
abbrev pub result_outcome : Command → Data → Outcome
result_outcome c payload = read_outcome (known_members c payload)

-- the edit that an answer makes, if it is Accepted
abbrev pub edit_by : List ℕ → Command → Result Data FieldFault → Lookups → Option Edit
edit_by station c (Ok known) l = if is_accepted known then edit_when_accepted station c l else None
edit_by station c (Err fault) l = None

-- the edit of a call that is answered with a result
abbrev pub result_edit : List ℕ → Command → Data → Lookups → Option Edit
result_edit station c payload l = edit_by station c (known_members c payload) l

-- the call in flight ends with the outcome and the edit that its command gives, if there is one
abbrev pub end_plan : List ℕ → List ℕ → (Command → Outcome) → (Command → Option Edit) → Option Command → Plan
end_plan station id gives edits None = nothing
end_plan station id gives edits (Some c) = changing (effect.Answer station id (gives c) (edits c))

-- the call in flight ends if a result has its number
abbrev pub result_plan : List ℕ → List ℕ → Data → StationSlot → Lookups → Plan
result_plan station id payload s l = end_plan station id (λ c. result_outcome c payload) (λ c. result_edit station c payload l) (answered_command id s)

-- the call in flight ends if an error has its number; it edits nothing
abbrev pub failure_plan : List ℕ → List ℕ → List ℕ → List ℕ → StationSlot → Plan
failure_plan station id code description s = end_plan station id (λ c. outcome.Error code description) (λ c. None) (answered_command id s)
