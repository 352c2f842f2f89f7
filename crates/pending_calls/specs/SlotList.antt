-- A list of slots in the order of their operators and stations: finding and changing a slot.
use Rattle.std.specs.Prelude.{◌≡◌, ℕ, ◌<◌, List, [], ◌∷◌, length, take, slice_index_or, Option, Some, None, Bool, true, false, if◌then◌else◌, find}
use Rattle.std.specs.List.{AllByRecursion}
use Rattle.std.specs.Str.{bytes_eq}
use Rattle.hub_rows.specs.Keyed.{found, changed}
use Rattle.pending_calls.specs.declared.call.Moved.{Moved}
use Rattle.pending_calls.specs.Slot.{SlotState, fresh, is_overdue, expiry}

module _ {C : Type 0} where
  -- what tells the slots of one operator apart
  abbrev pub slot_rest : SlotState C → List (List ℕ)
  slot_rest s = s.station ∷ []

  -- the key of a slot
  abbrev pub slot_key : SlotState C → List (List ℕ)
  slot_key s = s.op ∷ slot_rest s

  -- the slot, or a fresh one where there is none
  abbrev pub slot_or : ℕ → List ℕ → List ℕ → Option (SlotState C) → SlotState C
  slot_or number b station None = fresh number b station
  slot_or number b station (Some s) = s

  -- the slot of a station of operator b; calls are counted from that number
  abbrev pub slot_of : ℕ → List ℕ → List ℕ → List (SlotState C) → SlotState C
  slot_of number b station slots = slot_or number b station (found (λ s. s.op) b (λ s. bytes_eq s.station station) slots)

  -- the slot of a station of operator b is changed, if it is there
  abbrev pub changed_at : List ℕ → List ℕ → (SlotState C → SlotState C) → List (SlotState C) → List (SlotState C)
  changed_at b station = changed (λ s. s.op) b (λ s. bytes_eq s.station station)

  -- the first slot that passes the test is changed
  abbrev pub first_changed : (SlotState C → Bool) → (SlotState C → SlotState C) → List (SlotState C) → List (SlotState C)
  first_changed test f [] = []
  first_changed test f (s ∷ ss) = if test s then f s ∷ ss else s ∷ first_changed test f ss

  -- the overdue call of that slot that ends, and the message that goes out
  abbrev pub expiry_found : ℕ → Option (SlotState C) → Option (Moved C)
  expiry_found m None = None
  expiry_found m (Some s) = expiry m s

  -- the call of the first overdue slot that ends at moment m, and the message that goes out
  abbrev pub next_expiry : ℕ → List (SlotState C) → Option (Moved C)
  next_expiry m slots = expiry_found m (find (is_overdue m) slots)

  -- no call is overdue at that second
  abbrev pub NoneDue : ℕ → List (SlotState C) → Type 0
  NoneDue m = AllByRecursion (λ s. is_overdue m s ≡ false)

  -- the slot at index i is the first that passes the test
  pub record IsFirstAt (test : SlotState C → Bool) (slots : List (SlotState C)) (i : ℕ) : Type 0 where
    pub slot : SlotState C
    pub in_range : i < length slots
    pub here : (d : SlotState C) → slice_index_or slots i d ≡ slot
    pub passes : test slot ≡ true
    pub before : AllByRecursion (λ s. test s ≡ false) (take i slots)

  -- the index is that of the first slot that passes the test, or none passes
  abbrev pub IsFirstThat : (SlotState C → Bool) → List (SlotState C) → Option ℕ → Type 0
  IsFirstThat test slots None = AllByRecursion (λ s. test s ≡ false) slots
  IsFirstThat test slots (Some i) = IsFirstAt test slots i
