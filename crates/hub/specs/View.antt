-- What one operator has of a world, and that operator's own machine, which has no record, slot or
-- event of another operator. It knows the setting.
use Rattle.std.specs.Prelude.{ℕ, List, [], ◌∷◌, ◌++◌, length, drop, map, Option, Some, None, if◌then◌else◌}
use Rattle.std.specs.Str.{bytes_eq}
use Rattle.hub_rows.specs.declared.change.Edit.{Edit}
use Rattle.hub_rows.specs.declared.info.GrantedTag.{GrantedTag}
use Rattle.hub_rows.specs.declared.use_row.UseRow.{UseRow}
use Rattle.hub_rows.specs.Grants.{granted_in}
use Rattle.hub_rows.specs.Keyed.{put, by_key, own}
use Rattle.hub_rows.specs.Rows.{Rows}
use Rattle.hub_rows.specs.Own.{own_rows, own_edit}
use Rattle.hub_rows.specs.Lookups.{own_lookups}
use Rattle.hub_events.specs.declared.event.Event.{Event}
use Rattle.hub_events.specs.declared.event.Event.TheVariants.{At, Tick}
use Rattle.hub_events.specs.declared.event.What.{What}
use Rattle.hub_events.specs.declared.out.Out.{Out}
use Rattle.plans.specs.declared.plan.Effect.{Effect}
use Rattle.plans.specs.declared.plan.Effect.TheVariants as effect
use Rattle.plans.specs.declared.plan.Plan.{Plan}
use Rattle.plans.specs.Effects.{StationSlot}
use Rattle.hub.specs.GrantedTags.{are_same}
use Rattle.hub.specs.Effects.{edit_of, tick_outputs}
use Rattle.plans.specs.Facts.{Facts}
use Rattle.event_plans.specs.Table.{plan}
use Rattle.hub.specs.World.{Setting, World, plan_outputs, world_step}
use Rattle.pending_calls.specs.OwnSlots.{own_slots, slot_in, changed_in}
use Rattle.pending_calls.specs.Slot.{answered, cut, submitted, with_connection}
use Rattle.pending_calls.specs.SlotList.{slot_rest}
use Rattle.pending_calls.specs.Tick.{tick}

-- the records and the slots of one operator, and the tags that others granted to it
pub record View : Type 0 where
  pub rows : Rows
  pub slots : List StationSlot
  pub granted : List GrantedTag

-- the tags that are granted to operator a in a world
abbrev pub granted_to : List ℕ → World → List GrantedTag
granted_to a w = granted_in a w.rows.tags w.rows.grants

-- the uses of operator a's tags at the stations of others in a world
abbrev pub uses_of : List ℕ → World → List UseRow
uses_of a w = own (λ r. r.op) a w.rows.uses

-- what operator a has of a world
abbrev pub view : List ℕ → World → View
view a w = record { rows = own_rows a w.rows; slots = own_slots a w.slots; granted = granted_to a w }

-- ---- the operator's own machine

-- the facts of an operator, over its view alone
abbrev pub own_facts : ℕ → List ℕ → View → Facts
own_facts first a v = record { lookups = own_lookups a v.rows v.granted; slot = λ station. slot_in first a station v.slots; slots = v.slots }

-- its records after an edit of its own, if there is one
abbrev pub own_rows_after : List ℕ → Option Edit → Rows → Rows
own_rows_after a None rows = rows
own_rows_after a (Some e) rows = own_edit a e rows

-- its slots after an effect of its own at moment m
abbrev pub own_slots_after : ℕ → List ℕ → ℕ → Effect → List StationSlot → List StationSlot
own_slots_after first a m effect.Nothing slots = slots
own_slots_after first a m (effect.Edit e) slots = slots
own_slots_after first a m (effect.Connect station) slots = put (by_key slot_rest) (with_connection (slot_in first a station slots)) slots
own_slots_after first a m (effect.Disconnect station) slots = changed_in station cut slots
own_slots_after first a m (effect.Submit station command text) slots = changed_in station (submitted command text m) slots
own_slots_after first a m (effect.Answer station id outcome edit) slots = changed_in station (answered id m) slots

-- what the machine is shown: an event of its operator, at its moment, a tick, the tags that are granted to
-- its operator from now on, or a settled use of one of its operator's tags
pub data Item : Type 0 where
  Own : ℕ → What → Item
  Ticked : ℕ → Item
  Granted : List GrantedTag → Item
  Use : UseRow → Item

-- the tags that are granted, where they are others than before
abbrev pub news : List GrantedTag → List GrantedTag → List Item
news before after = if are_same before after then [] else Granted after ∷ []

-- the uses after those of before
abbrev pub more_uses : List UseRow → List UseRow → List Item
more_uses before after = map Use (drop (length before) after)

-- the plan of an event of its own
abbrev pub own_plan : Setting → List ℕ → View → ℕ → What → Plan
own_plan setting a v m what = plan setting.is_hosted setting.answers what m (own_facts setting.first_number a v)

-- what the machine says of one item
abbrev pub operator_outputs : Setting → List ℕ → View → Item → List Out
operator_outputs setting a v (Own m what) = plan_outputs a (own_plan setting a v m what) (own_facts setting.first_number a v)
operator_outputs setting a v (Ticked m) = tick_outputs m v.slots
operator_outputs setting a v (Granted granted) = []
operator_outputs setting a v (Use settled) = []

-- what the operator has after one item
abbrev pub operator_step : Setting → List ℕ → View → Item → View
operator_step setting a v (Own m what) =
    let e = (own_plan setting a v m what).effect in
    record { rows = own_rows_after a (edit_of e) v.rows; slots = own_slots_after setting.first_number a m e v.slots; granted = v.granted }
operator_step setting a v (Ticked m) = record v { slots = tick m v.slots }
operator_step setting a v (Granted granted) = record v { granted = granted }
operator_step setting a v (Use settled) = record v { rows = record v.rows { uses = v.rows.uses ++ settled ∷ [] } }

-- what the machine says of a list of items
abbrev pub operator_run_outputs : Setting → List ℕ → View → List Item → List Out
operator_run_outputs setting a v [] = []
operator_run_outputs setting a v (i ∷ is) = operator_outputs setting a v i ++ operator_run_outputs setting a (operator_step setting a v i) is

-- what the operator has after a list of items
abbrev pub operator_run : Setting → List ℕ → View → List Item → View
operator_run setting a v [] = v
operator_run setting a v (i ∷ is) = operator_run setting a (operator_step setting a v i) is

-- ---- what a world shows the operator: its own events, ticks, each new list of the tags that are granted to
-- it, and each use of its tags that is settled

-- what a step of another, from one world to another, shows the operator
abbrev pub shown_by : List ℕ → World → World → List Item
shown_by a before after = news (granted_to a before) (granted_to a after) ++ more_uses (uses_of a before) (uses_of a after)

-- of one event: it and its moment where it is the operator's own, a tick, and of another's event the tags
-- that are granted to the operator after it, where they are others than before, and the uses that it adds
abbrev pub seen_of : Setting → List ℕ → World → Event → List Item
seen_of setting a w (At b m what) = if bytes_eq b a then Own m what ∷ [] else shown_by a w (world_step setting w (At b m what))
seen_of setting a w (Tick m) = Ticked m ∷ []

-- of a list of events, each as the world stands before it
abbrev pub seen : Setting → List ℕ → World → List Event → List Item
seen setting a w [] = []
seen setting a w (e ∷ es) = seen_of setting a w e ++ seen setting a (world_step setting w e) es
