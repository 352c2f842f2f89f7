-- What a tick says, call by call.
use Rattle.std.specs.Prelude.{◌≡◌, ℕ, List, [], ◌∷◌, ◌++◌, Some, None}
use Rattle.std.proofs.Common.{refl, sym, ◌∙◌, ap}
use Rattle.std.specs.List.{flat_map, cons_option}
use Rattle.operator_cmds.specs.declared.command.Command.{Command}
use Rattle.pending_calls.specs.declared.call.Moved.{Moved}
use Rattle.pending_calls.specs.Slot.{expiry}
use Rattle.pending_calls.specs.Tick.{tick_moves}
use Rattle.pending_calls.proofs.Ticks.{IsDone, IsStep}
use Rattle.hub_events.specs.declared.out.Out.{Out}
use Rattle.hub_events.specs.declared.out.Outcome.TheVariants.{Timeout}
use Rattle.plans.specs.Effects.{StationSlot}
use Rattle.hub.specs.Effects.{moved_outputs, tick_outputs}

abbrev timed_out : Moved Command → List Out
timed_out moved = moved_outputs Timeout (Some moved)

-- what the moves say is what is said
moves_say : (m : ℕ) (slots : List StationSlot) → flat_map timed_out (tick_moves m slots) ≡ tick_outputs m slots
moves_say m [] = refl
moves_say m (s ∷ slots) =
    elim (expiry m s) as (λ e. flat_map timed_out (cons_option e (tick_moves m slots)) ≡ moved_outputs Timeout e ++ tick_outputs m slots) [
      | None ↦ moves_say m slots
      | Some moved ↦ ap (λ outs. timed_out moved ++ outs) (moves_say m slots)
    ]

-- one move says the first of it
pub step_says : (m : ℕ) (moved : Moved Command) (old new : List StationSlot) → IsStep m moved old new → tick_outputs m old ≡ moved_outputs Timeout (Some moved) ++ tick_outputs m new
step_says m moved old new step =
    sym (moves_say m old) ∙ ap (flat_map timed_out) step.first_move ∙ ap (λ outs. timed_out moved ++ outs) (moves_say m new)

-- where nothing is due, nothing is said
pub done_says : (m : ℕ) (slots : List StationSlot) → IsDone m slots → tick_outputs m slots ≡ []
done_says m slots end = sym (moves_say m slots) ∙ ap (flat_map timed_out) end.no_move
