-- The calls of one station: the one in flight, those that wait, and how they move.
use Rattle.std.specs.Prelude.{◌≡◌, ℕ, ◌+◌, ◌≤◌, nat_le, List, [], ◌∷◌, ◌++◌, length, map, drop, Option, Some, None, Bool, true, false, if◌then◌else◌, not, ◌||◌, is_some, sum_by, Result, Ok, Err, decimal, option_map}
use Rattle.std.specs.Str.{bytes_eq}
use Rattle.ocpp_types.specs.declared.refusal.Refusal.{Refusal}
use Rattle.ocpp_types.specs.declared.refusal.Refusal.TheVariants.{NotConnected, QueueFull, NumberSpent}
use Rattle.hub_rows.specs.Transactions.{last_of_all}
use Rattle.pending_calls.specs.declared.call.Call.{Call}
use Rattle.pending_calls.specs.declared.call.Message.{Message}
use Rattle.pending_calls.specs.declared.call.Moved.{Moved}
use Rattle.pending_calls.specs.declared.slot.TheConstants.{ANSWER_SECONDS, MOST_CALLS, MOST_WAITING_BYTES}

-- a call that was sent, and the moment when it was
pub record Flight (C : Type 0) : Type 0 where
  pub number : ℕ
  pub command : C
  pub sent : ℕ

-- a call that waits, with its text
pub record Queued (C : Type 0) : Type 0 where
  pub number : ℕ
  pub command : C
  pub text : List ℕ

-- the calls of one station, those that wait in their order
pub record SlotState (C : Type 0) : Type 0 where
  pub op : List ℕ
  pub station : List ℕ
  pub is_connected : Bool
  pub next_number : ℕ
  pub in_flight : Option (Flight C)
  pub waiting : List (Queued C)

-- how many calls of a station may be in flight and waiting together
abbrev pub most_calls : ℕ
most_calls = MOST_CALLS

-- no further call waits where the texts that wait at its station have this many bytes together
abbrev pub most_waiting_bytes : ℕ
most_waiting_bytes = MOST_WAITING_BYTES

-- how many seconds a call waits for its answer
abbrev pub answer_time : ℕ
answer_time = ANSWER_SECONDS

module _ {C : Type 0} where
  -- the slot of a station that was never connected; its first call has that number
  abbrev pub fresh : ℕ → List ℕ → List ℕ → SlotState C
  fresh number b station = record { op = b; station = station; is_connected = false; next_number = number; in_flight = None; waiting = [] }

  -- 1 where a call is in flight, else 0
  abbrev pub count_in_flight : Option (Flight C) → ℕ
  count_in_flight None = 0
  count_in_flight (Some f) = 1

  -- how many calls are in flight and waiting
  abbrev pub count_calls : SlotState C → ℕ
  count_calls s = count_in_flight s.in_flight + length s.waiting

  -- how many bytes the texts that wait have together
  abbrev pub waiting_bytes : SlotState C → ℕ
  waiting_bytes s = sum_by (λ q. length q.text) s.waiting

  -- whether a call is in flight, so that the next one would wait
  abbrev pub is_busy : SlotState C → Bool
  is_busy s = is_some s.in_flight

  -- what is true of every slot: at most 16 calls, none in flight unless it is connected, and none
  -- waits where none is in flight
  pub record IsSlot (s : SlotState C) : Type 0 where
    pub few : count_calls s ≤ most_calls
    pub unconnected : s.is_connected ≡ false → s.in_flight ≡ None
    pub in_order : s.in_flight ≡ None → s.waiting ≡ []

  -- whether no further call may wait: 16 calls are in flight and waiting, or the texts that wait, which
  -- are none where no call is in flight, have 1,048,576 bytes or more together
  abbrev pub is_full : SlotState C → Bool
  is_full s = nat_le most_calls (count_calls s) || nat_le most_waiting_bytes (waiting_bytes s)

  -- the next call's number, or the first reason that there can be none, by the slot alone
  abbrev pub ready : SlotState C → Result ℕ Refusal
  ready s =
      if not s.is_connected then Err NotConnected
      else if is_full s then Err QueueFull
      else if nat_le s.next_number last_of_all then Ok s.next_number
      else Err NumberSpent

  -- a call of the slot's station, as its end is told
  abbrev pub call_of : SlotState C → ℕ → C → Call C
  call_of s number command = record { op = s.op; station = s.station; number = number; command = command }

  -- a text to the slot's station
  abbrev pub message_of : SlotState C → List ℕ → Message
  message_of s text = record { op = s.op; station = s.station; text = text }

  -- ---- a command comes

  -- the command's call, sent at moment m
  abbrev pub flight : SlotState C → C → ℕ → Flight C
  flight s command m = record { number = s.next_number; command = command; sent = m }

  -- the command's call, waiting with its text
  abbrev pub queued : SlotState C → C → List ℕ → Queued C
  queued s command text = record { number = s.next_number; command = command; text = text }

  -- the call in flight stays, or else the new one is in flight
  abbrev pub in_flight_or : Option (Flight C) → Flight C → Option (Flight C)
  in_flight_or None f = Some f
  in_flight_or (Some g) f = Some g

  -- where a call is in flight the new one waits after the others
  abbrev pub behind : Option (Flight C) → Queued C → List (Queued C) → List (Queued C)
  behind None q qs = qs
  behind (Some g) q qs = qs ++ q ∷ []

  -- the slot after a call is submitted: it is sent at moment m where none is in flight, and else
  -- it waits
  abbrev pub submitted : C → List ℕ → ℕ → SlotState C → SlotState C
  submitted command text m s = record s {
    next_number = s.next_number + 1;
    in_flight = in_flight_or s.in_flight (flight s command m);
    waiting = behind s.in_flight (queued s command text) s.waiting;
  }

  -- the message, where no call is in flight
  abbrev pub message_now : Option (Flight C) → Message → Option Message
  message_now None message = Some message
  message_now (Some g) message = None

  -- the message that goes out when a call with that text is submitted
  abbrev pub sent_now : List ℕ → SlotState C → Option Message
  sent_now text s = message_now s.in_flight (message_of s text)

  -- ---- the call in flight ends

  -- the first of the waiting calls, sent at moment m
  abbrev pub sent_at : ℕ → List (Queued C) → Option (Flight C)
  sent_at m [] = None
  sent_at m (q ∷ qs) = Some (record { number = q.number; command = q.command; sent = m })

  -- the message of the first of the waiting calls
  abbrev pub next_message : SlotState C → List (Queued C) → Option Message
  next_message s [] = None
  next_message s (q ∷ qs) = Some (message_of s q.text)

  -- the slot after the call in flight ended and the next one was sent at moment m
  abbrev pub moved_on : ℕ → SlotState C → SlotState C
  moved_on m s = record s { in_flight = sent_at m s.waiting; waiting = drop 1 s.waiting }

  -- the end of that call in flight, and the message that goes out
  abbrev pub move_of : SlotState C → Flight C → Moved C
  move_of s f = record { ended = call_of s f.number f.command; next = next_message s s.waiting }

  -- the end of the call in flight, if there is one, and the message that goes out
  abbrev pub move : SlotState C → Option (Moved C)
  move s = option_map (move_of s) s.in_flight

  -- whether the id is the number of that call, in decimal
  abbrev pub has_number : List ℕ → Option (Flight C) → Bool
  has_number id None = false
  has_number id (Some f) = bytes_eq id (decimal f.number)

  -- whether an answer with that id ends the call in flight
  abbrev pub is_answered : List ℕ → SlotState C → Bool
  is_answered id s = has_number id s.in_flight

  -- the command of the call in flight, if an answer with that id ends it
  abbrev pub answered_command : List ℕ → SlotState C → Option C
  answered_command id s = if is_answered id s then option_map (λ f. f.command) s.in_flight else None

  -- the slot after an answer with that id at moment m
  abbrev pub answered : List ℕ → ℕ → SlotState C → SlotState C
  answered id m s = if is_answered id s then moved_on m s else s

  -- the call that an answer with that id ends, and the message that goes out
  abbrev pub answer_move : List ℕ → SlotState C → Option (Moved C)
  answer_move id s = if is_answered id s then move s else None

  -- whether the answer time of that call has passed at moment m
  abbrev pub is_late : ℕ → Option (Flight C) → Bool
  is_late m None = false
  is_late m (Some f) = nat_le (f.sent + answer_time) m

  -- whether the answer time of the call in flight has passed at moment m
  abbrev pub is_overdue : ℕ → SlotState C → Bool
  is_overdue m s = is_late m s.in_flight

  -- the slot after its call in flight ended at moment m, if it was overdue
  abbrev pub expired : ℕ → SlotState C → SlotState C
  expired m s = if is_overdue m s then moved_on m s else s

  -- the overdue call that ends at moment m, and the message that goes out
  abbrev pub expiry : ℕ → SlotState C → Option (Moved C)
  expiry m s = if is_overdue m s then move s else None

  -- ---- all calls end

  -- the calls that wait, as their ends are told
  abbrev pub waiting_calls : SlotState C → List (Queued C) → List (Call C)
  waiting_calls s qs = map (λ q. call_of s q.number q.command) qs

  -- the call in flight, if there is one, before the others
  abbrev pub in_flight_first : SlotState C → Option (Flight C) → List (Call C) → List (Call C)
  in_flight_first s None calls = calls
  in_flight_first s (Some f) calls = call_of s f.number f.command ∷ calls

  -- all calls of the slot in their order, as their ends are told
  abbrev pub ended_calls : SlotState C → List (Call C)
  ended_calls s = in_flight_first s s.in_flight (waiting_calls s s.waiting)

  -- the slot after its station's connection ended
  abbrev pub cut : SlotState C → SlotState C
  cut s = record s { is_connected = false; in_flight = None; waiting = [] }

  -- the slot after its station was connected
  abbrev pub with_connection : SlotState C → SlotState C
  with_connection s = record (cut s) { is_connected = true }
