-- The slots of all stations, as contracts speak of them.
use Rattle.std.specs.Prelude.{ℕ, List}
use Rattle.pending_calls.specs.declared.slots.Slots.{Slots}
use Rattle.pending_calls.specs.Slot.{SlotState}
use Rattle.pending_calls.specs.SlotList.{slot_of}

module _ {C : Type 0} where
  -- the slots in the order of their operators and stations
  abbrev pub all_slots : Slots C → List (SlotState C)
  all_slots s = s.list.items

  -- the number of a station's first call
  abbrev pub first_number : Slots C → ℕ
  first_number s = s.first_number

  -- the slot of a station of operator b
  abbrev pub slot_at : List ℕ → List ℕ → Slots C → SlotState C
  slot_at b station s = slot_of (first_number s) b station (all_slots s)
