-- What one operator sees of the slots when one or all of them move, and the order of the slots.
use Rattle.std.specs.Prelude.{◌≡◌, ◌≢◌, ℕ, List, [], ◌∷◌, Option, None, Some, true, false, cond, ◌&&◌, find}
use Rattle.std.proofs.Common.{refl, sym, ◌∙◌, ap}
use Rattle.std.specs.List.Sorted.{IsStrictlySortedBy}
use Rattle.std.specs.Str.{bytes_eq}
use Rattle.hub_rows.specs.Keyed.{by_key, put, found}
use Rattle.hub_rows.proofs.ListLaws.{same_text, own-put, own-put_other, own-changed, own-changed_other, found-own, sorted-put, by_key_total, sorted-changed}
use Rattle.pending_calls.specs.declared.slots.Slots.{Slots}
use Rattle.pending_calls.specs.Slot.{SlotState, is_answered, answered, moved_on, expired, with_connection}
use Rattle.pending_calls.specs.SlotList.{slot_key, slot_rest, slot_or, slot_of, changed_at}
use Rattle.pending_calls.specs.Slots.{all_slots}
use Rattle.pending_calls.specs.OwnSlots.{own_slots, own_slot_or, slot_in, changed_in}
use Rattle.pending_calls.specs.Tick.{tick}
use Rattle.pending_calls.proofs.ListLaws.{own-map}
use Rattle.pending_calls.proofs.Ticks.{expired_op}

-- ---- the order of the slots

module _ {C : Type 0} where
  -- the slots stand in the order of their keys
  pub slots-sorted : (s : Slots C) → IsStrictlySortedBy (by_key slot_key) (all_slots s)
  slots-sorted s = s.sorted

  -- a change of a slot that keeps its key keeps the order
  pub sorted-changed_at : (b station : List ℕ) (f : SlotState C → SlotState C) (slots : List (SlotState C)) → ((s : SlotState C) → slot_key (f s) ≡ slot_key s) → IsStrictlySortedBy (by_key slot_key) slots → IsStrictlySortedBy (by_key slot_key) (changed_at b station f slots)
  sorted-changed_at b station f slots stays sorted = sorted-changed slot_key (λ s. s.op) b (λ s. bytes_eq s.station station) f stays slots sorted

  -- a slot that is put keeps the order
  pub sorted-put_slot : (s : SlotState C) (slots : List (SlotState C)) → IsStrictlySortedBy (by_key slot_key) slots → IsStrictlySortedBy (by_key slot_key) (put (by_key slot_key) s slots)
  sorted-put_slot s slots sorted = sorted-put (by_key slot_key) (by_key_total slot_key) s slots sorted

-- ---- the names of a slot

module _ {C : Type 0} (number : ℕ) (b station : List ℕ) where
  -- the slot of a station bears its operator's name
  pub slot_of-op : (slots : List (SlotState C)) → (slot_of number b station slots).op ≡ b
  slot_of-op [] = refl
  slot_of-op (s ∷ slots) =
      elim (bytes_eq s.op b) as (λ t. bytes_eq s.op b ≡ t → (slot_or number b station (cond (t && bytes_eq s.station station) (Some s) (found (λ s. s.op) b (λ s. bytes_eq s.station station) slots))).op ≡ b) [
        | false ↦ λ e. slot_of-op slots
        | true ↦ λ e. elim (bytes_eq s.station station) as (λ t. (slot_or number b station (cond t (Some s) (found (λ s. s.op) b (λ s. bytes_eq s.station station) slots))).op ≡ b) [ true ↦ same_text s.op b e | false ↦ slot_of-op slots ]
      ] refl

  -- and the station's name
  pub slot_of-station : (slots : List (SlotState C)) → (slot_of number b station slots).station ≡ station
  slot_of-station [] = refl
  slot_of-station (s ∷ slots) =
      elim (bytes_eq s.op b) as (λ t. (slot_or number b station (cond (t && bytes_eq s.station station) (Some s) (found (λ s. s.op) b (λ s. bytes_eq s.station station) slots))).station ≡ station) [
        | false ↦ slot_of-station slots
        | true ↦ elim (bytes_eq s.station station) as (λ t. bytes_eq s.station station ≡ t → (slot_or number b station (cond t (Some s) (found (λ s. s.op) b (λ s. bytes_eq s.station station) slots))).station ≡ station) [ true ↦ λ e. same_text s.station station e | false ↦ λ e. slot_of-station slots ] refl
      ]

module _ {C : Type 0} where
  -- an answer keeps the operator of a slot
  pub answered_op : (id : List ℕ) (m : ℕ) (s : SlotState C) → (answered id m s).op ≡ s.op
  answered_op id m s = elim (is_answered id s) as (λ b. (cond b (moved_on m s) s).op ≡ s.op) [ true ↦ refl | false ↦ refl ]

-- ---- what one operator sees

module _ {C : Type 0} (a : List ℕ) where
  -- where there is none, it is as new
  same_slot : (number : ℕ) (station : List ℕ) (o : Option (SlotState C)) → slot_or number a station o ≡ own_slot_or number a station o
  same_slot number station None = refl
  same_slot number station (Some s) = refl

  -- its slot is found among its own
  pub slot_of-own : (number : ℕ) (station : List ℕ) (slots : List (SlotState C)) → slot_of number a station slots ≡ slot_in number a station (own_slots a slots)
  slot_of-own number station slots =
      ap (slot_or number a station) (found-own (λ s. s.op) a (λ s. bytes_eq s.station station) slots)
      ∙ same_slot number station (find (λ s. bytes_eq s.station station) (own_slots a slots))

  -- a change of one of its slots is a change among its own
  pub changed_at-own : (station : List ℕ) (f : SlotState C → SlotState C) (slots : List (SlotState C)) → ((s : SlotState C) → (f s).op ≡ s.op) → own_slots a (changed_at a station f slots) ≡ changed_in station f (own_slots a slots)
  changed_at-own station f slots stays = own-changed (λ s. s.op) a (λ s. bytes_eq s.station station) f slots stays

  -- a change of another's slot isn't seen
  pub changed_at-other : (b station : List ℕ) (f : SlotState C → SlotState C) (slots : List (SlotState C)) → ((s : SlotState C) → (f s).op ≡ s.op) → b ≢ a → own_slots a (changed_at b station f slots) ≡ own_slots a slots
  changed_at-other b station f slots stays other = own-changed_other (λ s. s.op) a b (λ s. bytes_eq s.station station) f slots stays other

  -- a connect of one of its stations puts a slot among its own
  pub connect-own : (number : ℕ) (station : List ℕ) (slots : List (SlotState C)) → IsStrictlySortedBy (by_key slot_key) slots → own_slots a (put (by_key slot_key) (with_connection (slot_of number a station slots)) slots) ≡ put (by_key slot_rest) (with_connection (slot_in number a station (own_slots a slots))) (own_slots a slots)
  connect-own number station slots sorted =
      own-put (λ s. s.op) slot_rest a (with_connection (slot_of number a station slots)) slots sorted (slot_of-op number a station slots)
      ∙ ap (λ s. put (by_key slot_rest) (with_connection s) (own_slots a slots)) (slot_of-own number station slots)

  -- a connect of another's station isn't seen
  pub connect-other : (b station : List ℕ) (number : ℕ) (slots : List (SlotState C)) → b ≢ a → own_slots a (put (by_key slot_key) (with_connection (slot_of number b station slots)) slots) ≡ own_slots a slots
  connect-other b station number slots other = own-put_other (λ s. s.op) slot_rest a (with_connection (slot_of number b station slots)) slots (λ e. other (sym (slot_of-op number b station slots) ∙ e))

  -- its slots after a tick are the tick of its own slots
  pub tick-own : (m : ℕ) (slots : List (SlotState C)) → own_slots a (tick m slots) ≡ tick m (own_slots a slots)
  tick-own m slots = own-map (λ s. s.op) (expired m) (expired_op m) a slots
