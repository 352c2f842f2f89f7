-- What events do to the records and slots of all operators, and what is said.
use Rattle.std.specs.Prelude.{ℕ, ◌==◌, List, [], ◌∷◌, ◌++◌, length, Bool, false, Option, Some, None, map}
use Rattle.hub_rows.specs.declared.change.Edit.{Edit}
use Rattle.hub_rows.specs.Keyed.{own}
use Rattle.hub_rows.specs.Rows.{Rows}
use Rattle.hub_rows.specs.Changes.{edit}
use Rattle.hub_rows.specs.Lookups.{lookups_at}
use Rattle.station_calls.specs.Vendors.{Answers}
use Rattle.hub_events.specs.declared.event.Event.{Event}
use Rattle.hub_events.specs.declared.event.Event.TheVariants.{At, Tick}
use Rattle.hub_events.specs.declared.event.What.{What}
use Rattle.hub_events.specs.declared.out.Out.{Out}
use Rattle.hub_events.specs.declared.out.Said.{Said}
use Rattle.plans.specs.declared.plan.Plan.{Plan}
use Rattle.plans.specs.declared.plan.Effect.{Effect}
use Rattle.plans.specs.Effects.{StationSlot}
use Rattle.hub.specs.Effects.{edit_of, effect_outputs, slots_after, tick_outputs}
use Rattle.plans.specs.Facts.{Facts}
use Rattle.event_plans.specs.Table.{plan}
use Rattle.pending_calls.specs.OwnSlots.{own_slots}
use Rattle.pending_calls.specs.SlotList.{slot_of}
use Rattle.pending_calls.specs.Tick.{tick}

-- which operators are hosted, what vendors' messages are answered, and the number of the first call of
-- a station
pub record Setting : Type 0 where
  pub is_hosted : List ℕ → Bool
  pub answers : Answers
  pub first_number : ℕ

-- the records of all operators, and the slots of all stations
pub record World : Type 0 where
  pub rows : Rows
  pub slots : List StationSlot

-- the facts of operator b, over the records and slots of all
abbrev pub facts_at : ℕ → List ℕ → World → Facts
facts_at first b w = record { lookups = lookups_at b w.rows; slot = λ station. slot_of first b station w.slots; slots = own_slots b w.slots }

-- the records after an edit of operator b, if there is one
abbrev pub rows_after : List ℕ → Option Edit → Rows → Rows
rows_after b None rows = rows
rows_after b (Some e) rows = edit b e rows

-- an effect for operator b at moment m
abbrev pub world_by : ℕ → List ℕ → ℕ → Effect → World → World
world_by first b m e w = record { rows = rows_after b (edit_of e) w.rows; slots = slots_after first b m e w.slots }

-- the plan of an event of operator b
abbrev pub plan_at : Setting → World → List ℕ → ℕ → What → Plan
plan_at setting w b m what = plan setting.is_hosted setting.answers what m (facts_at setting.first_number b w)

-- ---- what is said

-- the output that says it to operator b
abbrev pub said_to : List ℕ → Said → Out
said_to b s = record { op = b; said = s }

-- the outputs of a plan of operator b: what it says, then what is said of the calls that its effect ends
-- and sends
abbrev pub plan_outputs : List ℕ → Plan → Facts → List Out
plan_outputs b p f = map (said_to b) p.said ++ effect_outputs p.effect f.slot

-- the outputs for operator a, in order
abbrev pub outputs_of : List ℕ → List Out → List Out
outputs_of a outs = own (λ o. o.op) a outs

-- ---- one event: the outputs, and the world after it

-- the outputs of an event, for any operator
abbrev pub world_outputs : Setting → World → Event → List Out
world_outputs setting w (At b m what) = plan_outputs b (plan_at setting w b m what) (facts_at setting.first_number b w)
world_outputs setting w (Tick m) = tick_outputs m w.slots

-- a tick at which no call ends
abbrev pub is_idle : Event → List Out → Bool
is_idle (At b m what) outs = false
is_idle (Tick m) outs = length outs == 0

-- the world after an event
abbrev pub world_step : Setting → World → Event → World
world_step setting w (At b m what) = world_by setting.first_number b m (plan_at setting w b m what).effect w
world_step setting w (Tick m) = record w { slots = tick m w.slots }

-- ---- a list of events

-- the outputs of a list of events
abbrev pub run_outputs : Setting → World → List Event → List Out
run_outputs setting w [] = []
run_outputs setting w (e ∷ es) = world_outputs setting w e ++ run_outputs setting (world_step setting w e) es

-- the world after a list of events
abbrev pub world_run : Setting → World → List Event → World
world_run setting w [] = w
world_run setting w (e ∷ es) = world_run setting (world_step setting w e) es
