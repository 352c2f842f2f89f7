-- What carrying out an event's plan says of the store and of the slots, by each before the call and after
-- it, and by the answer.
use Rattle.std.specs.Prelude.{◌≡◌, ◌≢◌, ℕ, List, Option, Result, Err, IfErr, OnOk, OnErr}
use Rattle.hub_rows.specs.declared.change.Edit.{Edit}
use Rattle.hub_rows.specs.Reads.{IsCounted}
use Rattle.hub_rows.specs.Stops.{Records}
use Rattle.hub_rows.specs.StoreView.{StoreView}
use Rattle.operator_cmds.specs.declared.command.Command.{Command}
use Rattle.pending_calls.specs.declared.slots.Slots.{Slots}
use Rattle.pending_calls.specs.Slots.{all_slots, first_number}
use Rattle.plans.specs.declared.plan.Effect.{Effect}
use Rattle.hub_events.specs.declared.fault.Fault.{Fault}
use Rattle.hub_events.specs.declared.fault.Fault.TheVariants as fault
use Rattle.hub_rows.specs.declared.store.Flush.{Flush}
use Rattle.hub.specs.Effects.{slots_after}
use Rattle.hub.specs.World.{rows_after}

-- the store takes an edit of an operator, if there is one, or keeps its rows
pub record Edits {S T : Type 0} (view : S → StoreView) (when : Flush) (op : List ℕ) (edit : Option Edit) (old new : S) (result : Result T Fault) : Type 0 where
  pub counted : IsCounted view old new (result ≡ Err fault.Store)
  pub rows : (view new).clean → OnOk result ((view new).rows ≡ rows_after op edit (view old).rows)
  pub err_rows : (view new).clean → OnErr result ((view new).rows ≡ (view old).rows)
  pub hosted : IfErr result (λ f. f ≢ fault.NoSuchOperator)
  pub records : Records when (rows_after op edit (view old).rows) (view old) (view new) result

-- the slots are those after an effect at moment m, or those before it
pub record Moves {T : Type 0} (op : List ℕ) (m : ℕ) (e : Effect) (old new : Slots Command) (result : Result T Fault) : Type 0 where
  pub slots : OnOk result (all_slots new ≡ slots_after (first_number old) op m e (all_slots old))
  pub err_slots : OnErr result (all_slots new ≡ all_slots old)
  pub first : first_number new ≡ first_number old
