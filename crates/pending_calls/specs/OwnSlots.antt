-- The slots of one operator.
use Rattle.std.specs.Prelude.{ℕ, nat_le, List, [], sum_by, Bool, false, ◌&&◌, Option, Some, None, Result, Err, if◌then◌else◌, map, find}
use Rattle.std.specs.Str.{bytes_eq}
use Rattle.hub_rows.specs.Keyed.{own}
use Rattle.ocpp_types.specs.declared.refusal.Refusal.{Refusal}
use Rattle.ocpp_types.specs.declared.refusal.Refusal.TheVariants.{QueueFull}
use Rattle.pending_calls.specs.declared.slots.TheConstants.{MOST_OPERATOR_BYTES}
use Rattle.pending_calls.specs.Slot.{SlotState, is_busy, ready, waiting_bytes}

-- no further call waits where the texts that wait at all stations of its operator have this many bytes
-- together
abbrev pub most_operator_bytes : ℕ
most_operator_bytes = MOST_OPERATOR_BYTES

module _ {C : Type 0} where
  -- the slots of operator a
  abbrev pub own_slots : List ℕ → List (SlotState C) → List (SlotState C)
  own_slots a = own (λ s. s.op) a

  -- the slot, or that of a station that was never connected
  abbrev pub own_slot_or : ℕ → List ℕ → List ℕ → Option (SlotState C) → SlotState C
  own_slot_or number a station None = record { op = a; station = station; is_connected = false; next_number = number; in_flight = None; waiting = [] }
  own_slot_or number a station (Some s) = s

  -- the slot of a station, among those of operator a alone
  abbrev pub slot_in : ℕ → List ℕ → List ℕ → List (SlotState C) → SlotState C
  slot_in number a station slots = own_slot_or number a station (find (λ s. bytes_eq s.station station) slots)

  -- the slot of a station is changed, if it is there, among those of one operator
  abbrev pub changed_in : List ℕ → (SlotState C → SlotState C) → List (SlotState C) → List (SlotState C)
  changed_in station f slots = map (λ s. if bytes_eq s.station station then f s else s) slots

  -- ---- a call comes

  -- whether no further call may wait at any station of an operator, by the texts that wait in its slots
  abbrev pub are_full : List (SlotState C) → Bool
  are_full slots = nat_le most_operator_bytes (sum_by waiting_bytes slots)

  -- the number of the next call of one of an operator's slots, or the first reason that there can be
  -- none; a call that is sent at once isn't refused for the calls that wait
  abbrev pub ready_among : List (SlotState C) → SlotState C → Result ℕ Refusal
  ready_among slots s = if is_busy s && are_full slots then Err QueueFull else ready s
