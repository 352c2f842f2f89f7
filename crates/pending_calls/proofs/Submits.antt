-- A slot that a call is submitted to while none is in flight.
use Rattle.std.specs.Prelude.{◌≡◌, ℕ, ◌+◌, Bool, false, List, Option, Some, None, is_some}
use Rattle.std.proofs.Common.{refl, sym, ◌∙◌, ap}
use Rattle.pending_calls.specs.declared.call.Call.{Call}
use Rattle.pending_calls.specs.declared.call.InFlight.{InFlight}
use Rattle.pending_calls.specs.declared.call.Waiting.{Waiting}
use Rattle.pending_calls.specs.Slot.{SlotState, call_of, message_of, flight, queued, submitted, sent_now, in_flight_or, behind, message_now}
use Rattle.pending_calls.specs.Shown.{flight_of, shown}

module _ {C : Type 0} where
  none_in_flight : (f : Option (InFlight C)) → is_some f ≡ false → flight_of f ≡ None
  none_in_flight None none = refl
  none_in_flight (Some f) none = absurd (cc)

  module _ (op station : List ℕ) (is_connected : Bool) (number : ℕ) (f : Option (InFlight C)) (ws : List (Waiting C)) (s : SlotState C) (is : shown op station is_connected number f ws ≡ s) (none : is_some f ≡ false) where
    free : None ≡ s.in_flight
    free = sym (none_in_flight f none) ∙ ap (λ t. t.in_flight) is

    -- the message goes out
    pub sent_at_once : (text : List ℕ) → Some (message_of s text) ≡ sent_now text s
    sent_at_once text = ap (λ g. message_now g (message_of s text)) free

    -- the call is in flight
    pub shown_sent : (command : C) (text : List ℕ) (m : ℕ) (call : Call C) → call ≡ call_of s s.next_number command → shown op station is_connected (number + 1) (Some (record { call = call; sent = m })) ws ≡ submitted command text m s
    shown_sent command text m call made =
        (λ i. shown op station is_connected (number + 1) (Some (record { call = made i; sent = m })) ws)
        ∙ (λ i. record (is i) { next_number = (is i).next_number + 1; in_flight = Some (flight s command m) })
        ∙ (λ i. record s { next_number = s.next_number + 1; in_flight = in_flight_or (free i) (flight s command m); waiting = behind (free i) (queued s command text) s.waiting })
