-- How a slot's fields are seen.
use Rattle.std.specs.Prelude.{ℕ, ◌≡◌, Bool, List, ◌∷◌, map, Option, Some, None}
use Rattle.std.specs.List.{AllByRecursion}
use Rattle.pending_calls.specs.declared.call.Call.{Call}
use Rattle.pending_calls.specs.declared.call.InFlight.{InFlight}
use Rattle.pending_calls.specs.declared.call.Waiting.{Waiting}
use Rattle.pending_calls.specs.Slot.{Flight, Queued, SlotState, IsSlot}

module _ {C : Type 0} where
  -- the call in flight without its names
  abbrev pub flight_of : Option (InFlight C) → Option (Flight C)
  flight_of None = None
  flight_of (Some f) = Some (record { number = f.call.number; command = f.call.command; sent = f.sent })

  -- a call that waits without its names
  abbrev pub queued_of : Waiting C → Queued C
  queued_of w = record { number = w.call.number; command = w.call.command; text = w.message.text }

  -- the names in a call are those of its slot
  pub record IsCallOf (op station : List ℕ) (call : Call C) : Type 0 where
    pub same_op : call.op ≡ op
    pub same_station : call.station ≡ station

  -- the names in a waiting call and its message are those of its slot
  pub record IsWaitingOf (op station : List ℕ) (w : Waiting C) : Type 0 where
    pub call : IsCallOf op station w.call
    pub message_op : w.message.op ≡ op
    pub message_station : w.message.station ≡ station

  -- the names in the call in flight, if there is one, are those of its slot
  abbrev pub IsInFlightOf : List ℕ → List ℕ → Option (InFlight C) → Type 0
  IsInFlightOf op station None = Unit {0}
  IsInFlightOf op station (Some f) = IsCallOf op station f.call

  -- what contracts see of a slot's fields
  abbrev pub shown : (op station : List ℕ) → Bool → ℕ → Option (InFlight C) → List (Waiting C) → SlotState C
  shown op station is_connected next_number in_flight waiting = record { op = op; station = station; is_connected = is_connected; next_number = next_number; in_flight = flight_of in_flight; waiting = map queued_of waiting }

  -- what is always true of a slot's fields
  pub record IsKept (op station : List ℕ) (is_connected : Bool) (next_number : ℕ) (in_flight : Option (InFlight C)) (waiting : List (Waiting C)) : Type 0 where
    pub in_flight_named : IsInFlightOf op station in_flight
    pub waiting_named : AllByRecursion (IsWaitingOf op station) waiting
    pub slot : IsSlot (shown op station is_connected next_number in_flight waiting)

  -- the call in flight, if there is one, then those that wait
  abbrev pub all_calls : Option (InFlight C) → List (Waiting C) → List (Call C)
  all_calls None waiting = map (λ w. w.call) waiting
  all_calls (Some f) waiting = f.call ∷ map (λ w. w.call) waiting
