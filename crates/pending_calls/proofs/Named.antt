-- Calls that are kept under the names of their slot.
use Rattle.std.specs.Prelude.{◌≡◌, ℕ, ◌+◌, ◌<◌, ◌≤◌, Bool, false, List, [], ◌∷◌, ◌++◌, length, map, Option, Some, None, is_none, IsOk}
use Rattle.std.proofs.Common.{refl, arith, length-append}
use Rattle.std.proofs.lemmas.List.{length-map}
use Rattle.std.specs.List.{AllByRecursion}
use Rattle.pending_calls.specs.declared.call.Call.{Call}
use Rattle.pending_calls.specs.declared.call.InFlight.{InFlight}
use Rattle.pending_calls.specs.declared.call.Waiting.{Waiting}
use Rattle.pending_calls.specs.Slot.{SlotState, Flight, Queued, IsSlot, ready, count_calls, count_in_flight, most_calls, ended_calls, call_of, waiting_calls, in_flight_first}
use Rattle.pending_calls.specs.Shown.{flight_of, queued_of, IsCallOf, IsWaitingOf, IsInFlightOf, IsKept, shown, all_calls}

-- where there is a next_number number there is room
pub room : {C : Type 0} (s : SlotState C) → IsOk (ready s) → count_calls s < most_calls
room s ok = grind arith

all-push : {R : Type 0} (P : R → Type 0) (xs : List R) (x : R) → AllByRecursion P xs → P x → AllByRecursion P (xs ++ x ∷ [])
all-push P [] x all here = (here, tt)
all-push P (y ∷ xs) x all here = (all.0, all-push P xs x all.1 here)

count-push : {C : Type 0} (n : ℕ) (ws : List (Waiting C)) (w : Waiting C) → n + length (map queued_of ws) < most_calls → n + length (map queued_of (ws ++ w ∷ [])) ≤ most_calls
count-push n ws w less = simp (length-map, length-append) (let less' = (simp length-map at less) in omega arith)

-- one more call waits
pub kept-push : {C : Type 0} (op station : List ℕ) (is_connected : Bool) (next_number : ℕ) (in_flight : Option (InFlight C)) (ws : List (Waiting C)) (w : Waiting C) → IsKept op station is_connected next_number in_flight ws → IsWaitingOf op station w → is_none in_flight ≡ false → count_calls (shown op station is_connected next_number in_flight ws) < most_calls → IsKept op station is_connected (next_number + 1) in_flight (ws ++ w ∷ [])
kept-push op station is_connected next_number None ws w kept named some less = absurd (cc)
kept-push op station is_connected next_number (Some f) ws w kept named some less =
    record {
      in_flight_named = kept.in_flight_named;
      waiting_named = all-push (IsWaitingOf op station) ws w kept.waiting_named named;
      slot = record { few = count-push 1 ws w less; unconnected = kept.slot.unconnected; in_order = λ e. absurd (cc) };
    }

module _ {C : Type 0} (s : SlotState C) where
  named_call : (call : Call C) → IsCallOf s.op s.station call → call ≡ call_of s call.number call.command
  named_call call named = λ i. record call { op = named.same_op i; station = named.same_station i }

  named_waiting : (ws : List (Waiting C)) → AllByRecursion (IsWaitingOf s.op s.station) ws → map (λ w. w.call) ws ≡ waiting_calls s (map queued_of ws)
  named_waiting [] all = refl
  named_waiting (w ∷ ws) all = λ i. named_call w.call all.0.call i ∷ named_waiting ws all.1 i

  pub named_calls : (in_flight : Option (InFlight C)) (ws : List (Waiting C)) → IsInFlightOf s.op s.station in_flight → AllByRecursion (IsWaitingOf s.op s.station) ws → all_calls in_flight ws ≡ in_flight_first s (flight_of in_flight) (waiting_calls s (map queued_of ws))
  named_calls None ws named all = named_waiting ws all
  named_calls (Some f) ws named all = λ i. named_call f.call named i ∷ named_waiting ws all i

-- a slot has no more than 16 calls
few_in_flight : {C : Type 0} (s : SlotState C) (f : Option (Flight C)) (qs : List (Queued C)) → count_in_flight f + length qs ≤ most_calls → length (in_flight_first s f (waiting_calls s qs)) ≤ most_calls
few_in_flight s None qs few = let all = length-map qs (λ q. call_of s q.number q.command) in omega arith
few_in_flight s (Some f) qs few = let all = length-map qs (λ q. call_of s q.number q.command) in omega arith

pub few_calls : {C : Type 0} (s : SlotState C) → IsSlot s → length (ended_calls s) ≤ most_calls
few_calls s is = few_in_flight s s.in_flight s.waiting is.few
