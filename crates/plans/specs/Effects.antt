-- What is kept of a station, and what an effect on it needs.
use Rattle.std.specs.Prelude.{ℕ, List, Option, Some, None, IsOk}
use Rattle.hub_rows.specs.declared.change.Edit.{Edit}
use Rattle.operator_cmds.specs.declared.command.Command.{Command}
use Rattle.pending_calls.specs.Slot.{SlotState, ready}
use Rattle.plans.specs.declared.plan.Effect.{Effect}
use Rattle.plans.specs.declared.plan.Effect.TheVariants as effect

-- what is kept of a station: whether it is connected, and its calls
abbrev pub StationSlot : Type 0
StationSlot = SlotState Command

-- an edit, if there is one, as an effect
abbrev pub edit_effect : Option Edit → Effect
edit_effect None = effect.Nothing
edit_effect (Some e) = effect.Edit e

-- a station that is sent a command is ready for it
abbrev pub IsReady : (List ℕ → StationSlot) → Effect → Type 0
IsReady slot effect.Nothing = Unit {0}
IsReady slot (effect.Edit e) = Unit {0}
IsReady slot (effect.Connect station) = Unit {0}
IsReady slot (effect.Disconnect station) = Unit {0}
IsReady slot (effect.Submit station command text) = IsOk (ready (slot station))
IsReady slot (effect.Answer station id outcome edit) = Unit {0}
