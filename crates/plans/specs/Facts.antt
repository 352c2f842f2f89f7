-- What an operator's answers are made of.
use Rattle.std.specs.Prelude.{ℕ, List}
use Rattle.hub_rows.specs.Lookups.{Lookups, lookups_at}
use Rattle.hub_rows.specs.Rows.{Rows}
use Rattle.operator_cmds.specs.declared.command.Command.{Command}
use Rattle.pending_calls.specs.declared.slots.Slots.{Slots}
use Rattle.pending_calls.specs.OwnSlots.{own_slots}
use Rattle.pending_calls.specs.Slots.{all_slots, slot_at}
use Rattle.plans.specs.Effects.{StationSlot}

-- what an operator's answers are made of: its own records and the tags that are granted to it, the slot of
-- each of its stations, and the slots of those that were ever connected, in the order of their names
pub record Facts : Type 0 where
  pub lookups : Lookups
  pub slot : List ℕ → StationSlot
  pub slots : List StationSlot

-- the facts of operator b, over the records and the slots of all
abbrev pub facts_of : List ℕ → Rows → Slots Command → Facts
facts_of b rows slots = record { lookups = lookups_at b rows; slot = λ station. slot_at b station slots; slots = own_slots b (all_slots slots) }
