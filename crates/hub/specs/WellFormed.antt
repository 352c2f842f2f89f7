-- A world whose rows are well formed and whose slots are in the order of their keys.
use Rattle.std.specs.Prelude.{◌≡◌, true}
use Rattle.std.specs.List.{AllByRecursion}
use Rattle.std.specs.List.Sorted.{IsStrictlySortedBy}
use Rattle.hub_rows.specs.Keyed.{by_key}
use Rattle.hub_rows.specs.WellFormed.{IsOnRecord, WellFormedRows}
use Rattle.pending_calls.specs.SlotList.{slot_key}
use Rattle.hub.specs.World.{World}

-- what holds of the world of every hub whose store is clean
pub record WellFormed (w : World) : Type 0 where
  pub rows : WellFormedRows w.rows
  pub slots : IsStrictlySortedBy (by_key slot_key) w.slots

-- each connected station is on record
abbrev pub ConnectedAreOnRecord : World → Type 0
ConnectedAreOnRecord w = AllByRecursion (λ s. s.is_connected ≡ true → IsOnRecord s.op s.station w.rows.stations) w.slots
