-- A slot whose call in flight ends while others wait.
use Rattle.std.specs.Prelude.{◌≡◌, ℕ, ◌<◌, Bool, List, ◌∷◌, length, drop, Option, Some}
use Rattle.std.proofs.Common.{sym, ◌∙◌, ap, subst, get_or, arith}
use Rattle.hub_rows.proofs.Steps.{drop_here}
use Rattle.pending_calls.specs.declared.call.InFlight.{InFlight}
use Rattle.pending_calls.specs.declared.call.Waiting.{Waiting}
use Rattle.pending_calls.specs.Slot.{SlotState, move, moved_on}
use Rattle.pending_calls.specs.Shown.{IsKept, shown}

module _ {C : Type 0} (op station : List ℕ) (is_connected : Bool) (number : ℕ) where
  kept_here : (first : InFlight C) (w : Waiting C) (rest : List (Waiting C)) (m : ℕ) → IsKept op station is_connected number (Some first) (w ∷ rest) → IsKept op station is_connected number (Some (record { call = w.call; sent = m })) rest
  kept_here first w rest m kept = record {
    in_flight_named = kept.waiting_named.0.call;
    waiting_named = kept.waiting_named.1;
    slot = record { few = let few = kept.slot.few in omega arith; unconnected = λ e. absurd (let none = kept.slot.unconnected e in cc); in_order = λ e. absurd (cc) };
  }

  moved_here : (first : InFlight C) (w : Waiting C) (rest : List (Waiting C)) → IsKept op station is_connected number (Some first) (w ∷ rest) → Some (record { ended = first.call; next = Some w.message }) ≡ move (shown op station is_connected number (Some first) (w ∷ rest))
  moved_here first w rest kept =
      let ended = kept.in_flight_named in
      let next = kept.waiting_named.0 in
      λ i. Some (record {
        ended = record first.call { op = ended.same_op i; station = ended.same_station i };
        next = Some (record w.message { op = next.message_op i; station = next.message_station i });
      })

  module _ (f : Option (InFlight C)) (ws : List (Waiting C)) (first : InFlight C) (w : Waiting C) (is_first : f ≡ Some first) (within : 0 < length ws) (here : w ≡ get_or ws 0 w) (kept : IsKept op station is_connected number f ws) where
    split : ws ≡ w ∷ drop 1 ws
    split = drop_here ws 0 w within here

    kept_split : IsKept op station is_connected number (Some first) (w ∷ drop 1 ws)
    kept_split = subst (IsKept op station is_connected number (Some first)) split (subst (λ g. IsKept op station is_connected number g ws) is_first kept)

    -- the first of the waiting calls is kept in flight
    pub kept_moved : (new : List (Waiting C)) (m : ℕ) → new ≡ drop 1 ws → IsKept op station is_connected number (Some (record { call = w.call; sent = m })) new
    kept_moved new m rest = subst (IsKept op station is_connected number (Some (record { call = w.call; sent = m }))) (sym rest) (kept_here first w (drop 1 ws) m kept_split)

    module _ (s : SlotState C) (is : shown op station is_connected number f ws ≡ s) where
      -- the call that ends, and the message that goes out
      pub moved_first : Some (record { ended = first.call; next = Some w.message }) ≡ move s
      moved_first = moved_here first w (drop 1 ws) kept_split ∙ sym (λ i. move (shown op station is_connected number (is_first i) (split i))) ∙ ap move is

      -- the first of the waiting calls is in flight
      pub shown_moved : (new : List (Waiting C)) (m : ℕ) → new ≡ drop 1 ws → shown op station is_connected number (Some (record { call = w.call; sent = m })) new ≡ moved_on m s
      shown_moved new m rest =
          (λ i. shown op station is_connected number (Some (record { call = w.call; sent = m })) (rest i))
          ∙ sym (λ i. moved_on m (shown op station is_connected number f (split i)))
          ∙ ap (moved_on m) is
