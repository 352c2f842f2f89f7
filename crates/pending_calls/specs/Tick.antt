-- A tick: at each station the call in flight ends if it is overdue.
use Rattle.std.specs.Prelude.{ℕ, List, map}
use Rattle.std.specs.List.{filter_map}
use Rattle.pending_calls.specs.declared.call.Moved.{Moved}
use Rattle.pending_calls.specs.Slot.{SlotState, expired, expiry}

module _ {C : Type 0} where
  -- the slots after a tick at moment m
  abbrev pub tick : ℕ → List (SlotState C) → List (SlotState C)
  tick m = map (expired m)

  -- the calls that end at a tick and the messages that go out, in the order of the slots
  abbrev pub tick_moves : ℕ → List (SlotState C) → List (Moved C)
  tick_moves m = filter_map (expiry m)
