-- What is in flight.
use Rattle.std.specs.Prelude.{Bool, nat_lt}
use Rattle.pending_calls.specs.Slot.{SlotState, count_calls}

-- a call of the station is in flight: where one waits, one is
abbrev pub has_calls : {C : Type 0} → SlotState C → Bool
has_calls s = nat_lt 0 (count_calls s)
