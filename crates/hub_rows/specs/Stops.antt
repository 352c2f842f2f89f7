-- What a stop of the work leaves of a store.
use Rattle.std.specs.Prelude.{◌≡◌, ◌⊎◌, Result, Ok, OnErr, OnOk}
use Rattle.hub_rows.specs.declared.store.Flush.{Flush}
use Rattle.hub_rows.specs.declared.store.Flush.TheVariants.{AtOnce, Later}
use Rattle.hub_rows.specs.declared.store.Recovered.{Recovered}
use Rattle.hub_rows.specs.declared.store.Recovered.TheVariants.{Renewed, Whole}
use Rattle.hub_rows.specs.Rows.{Rows}
use Rattle.hub_rows.specs.StoreView.{StoreView}

-- A reopening finds these rows and no others, and what is said of them holds. Where what is below the store gave back
-- other than what was written, a reopening may find nothing, and nothing is said.
pub record FindsAlone (clean : Type 0) (rows : Rows) (may_find : Rows → Type 0) : Type 0 where
  pub alone : (r : Rows) → may_find r → clean × (r ≡ rows)
  pub takes : clean → may_find rows

-- these rows are on record: a reopening finds them alone
abbrev pub HasOnRecord : Rows → StoreView → Type 0
HasOnRecord rows s = FindsAlone s.clean rows s.may_find

-- a store is kept where its own rows are on record
abbrev pub IsKept : StoreView → Type 0
IsKept s = HasOnRecord s.rows s

-- A reopening finds these rows, if it finds any, though the store itself may have others or answer no more.
abbrev pub FindsOnly : Rows → StoreView → Type 0
FindsOnly rows s = (r : Rows) → s.may_find r → s.sound × (r ≡ rows)

-- whatever a call answers, a reopening after it finds the rows that were on record before it
abbrev pub FindsOld : StoreView → StoreView → Type 0
FindsOld old new = (on_record : Rows) → HasOnRecord on_record old → FindsOnly on_record new

-- whatever a call answers, a reopening after it finds the rows that were on record before it, or those that it was to make
abbrev pub FindsOldOr : Rows → StoreView → StoreView → Type 0
FindsOldOr made old new = (on_record : Rows) → HasOnRecord on_record old → (r : Rows) → new.may_find r → new.sound × ((r ≡ on_record) ⊎ (old.clean × (r ≡ made)))

-- what was on record still is
abbrev pub StaysOnRecord : StoreView → StoreView → Type 0
StaysOnRecord old new = (on_record : Rows) → HasOnRecord on_record old → HasOnRecord on_record new

-- where rows were on record, those of the store are
abbrev pub PutsOnRecord : StoreView → StoreView → Type 0
PutsOnRecord old new = (on_record : Rows) → HasOnRecord on_record old → IsKept new

-- what a change says of the record, flushed at once or later
pub record Records {T E : Type 0} (when : Flush) (made : Rows) (old new : StoreView) (result : Result T E) : Type 0 where
  pub stopped : when ≡ AtOnce → FindsOldOr made old new
  pub kept : when ≡ AtOnce → IsKept old → OnOk result (IsKept new)
  pub waits : when ≡ Later → OnOk result (StaysOnRecord old new)
  pub left : when ≡ Later → OnErr result (FindsOld old new)

-- ---- after a call that failed

-- what a reopening finds was written by this project alone
abbrev pub FindsSound : StoreView → Type 0
FindsSound s = (r : Rows) → s.may_find r → s.sound

-- all changes that wait are still there
pub record IsWhole (old new : StoreView) : Type 0 where
  pub was_clean : new.clean → old.clean
  pub rows : new.clean → new.rows ≡ old.rows
  pub on_record : (rows : Rows) → FindsOnly rows old → HasOnRecord rows new

-- they are gone, and the store has the rows that are on record
pub record IsRenewed (old new : StoreView) : Type 0 where
  pub rows : new.clean → old.may_find new.rows
  pub kept : FindsSound old → IsKept new

-- what a store says that looks for its changes
pub record Recovers {E : Type 0} (old new : StoreView) (result : Result Recovered E) : Type 0 where
  pub whole : result ≡ Ok Whole → IsWhole old new
  pub renewed : result ≡ Ok Renewed → IsRenewed old new
  pub lost : OnErr result (new.clean → ⊥)
  -- nothing more is on record
  pub stopped : FindsSound old → (r : Rows) → new.may_find r → old.may_find r
