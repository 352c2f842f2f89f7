-- Batches of changes.
use Rattle.std.specs.Prelude.{◌≡◌, ◌⊎◌, ◌≤◌, ℕ, Bool, List, [], ◌∷◌, ◌++◌, codes, false, true, IsTrue, Result, Ok, Err, OnOk}
use Rattle.hub_rows.specs.Rows.{Rows}
use Rattle.sqlite_trees.specs.Tree.{Trees}
use Rattle.sqlite_trees.specs.View.{doubt}
use Rattle.sqlite.specs.Effect.{Database}
use Rattle.sqlite.specs.State.{State, HasCleanDisk, Savepoint}
use Rattle.sql_edits.specs.declared.batches.NotMade.{NotMade}
use Rattle.sql_edits.specs.declared.batches.NotMade.TheVariants.{Alone, WithBatch}
use Rattle.sql_rows.specs.Kept.{InBatch, IsHub, IsInBatch, IsServing, IsUncommitted, Serves, StaysOpen, Stops, changes_in}
use Rattle.sql_rows.specs.TypedTables.{rows_of}

-- a call keeps the last commit, and the connection serves
pub record KeepsLast (old new : State) : Type 0 where
  pub was_open : IsTrue old.is_open
  pub committed : new.committed ≡ old.committed
  pub serves : Serves new

-- a batch is open, and the call keeps all rows
pub record Begun (old new : State) : Type 0 where
  pub was_open : IsTrue old.is_open
  pub now : new.now ≡ old.now
  pub committed : new.committed ≡ old.committed
  pub batch : InBatch new

abbrev pub LeavesBegun : {A E : Type 0} → State → State → Result A E → Type 0
LeavesBegun old new (Ok x) = Begun old new
LeavesBegun old new (Err e) = KeepsLast old new

-- a batch is begun, where none is open
pub record Begins {A E : Type 0} (old new : State) (r : Result A E) : Type 0 where
  pub leaves : IsServing old → IsTrue new.is_open → LeavesBegun old new r
  pub stops : IsServing old → Stops old new r

-- the batch is undone, if one is open and that is possible
pub record Undoes (old new : State) : Type 0 where
  pub leaves : IsServing old → IsTrue new.is_open → KeepsLast old new
  pub clean : doubt old.is_clean ≤ doubt new.is_clean
  pub stops : HasCleanDisk new → (db : Trees) → new.may_leave db → old.may_leave db

-- an edit is made in an open batch
pub record Added (Edit : Trees → Trees → Type 0) (old new : State) : Type 0 where
  pub was_open : IsTrue old.is_open
  pub edit : Edit old.now.trees new.now.trees
  pub committed : new.committed ≡ old.committed
  pub batch : InBatch new

abbrev pub LeavesAdded : {A E : Type 0} → (Trees → Trees → Type 0) → State → State → Result A E → Type 0
LeavesAdded Edit old new (Ok x) = Added Edit old new
LeavesAdded Edit old new (Err e) = KeepsLast old new

-- a change is added to the batch, which begins where none is open
pub record Adds {A E : Type 0} (Edit : Trees → Trees → Type 0) (old new : State) (r : Result A E) : Type 0 where
  pub leaves : IsTrue new.is_open → LeavesAdded Edit old new r
  pub stops : Stops old new r

-- ---- one change of a batch, which may be undone alone

-- the savepoint of a change that begins with this database
abbrev pub change_mark : Database → Savepoint
change_mark d = record { name = codes "change"; begins = false; db = d }

-- in a batch, in a change that began with this database, after these savepoints
pub record IsSince (before : List Savepoint) (first : Database) (s : State) : Type 0 where
  pub batch : InBatch s
  pub marks : s.marks ≡ before ++ change_mark first ∷ []

abbrev pub IsInChange : List Savepoint → Database → State → Type 0
IsInChange before first s = IsTrue s.is_open → IsSince before first s

-- a change begins
pub record Marked (old new : State) : Type 0 where
  pub was_open : IsTrue old.is_open
  pub now : new.now ≡ old.now
  pub committed : new.committed ≡ old.committed
  pub since : IsSince old.marks old.now new

abbrev pub LeavesMarked : {A E : Type 0} → State → State → Result A E → Type 0
LeavesMarked old new (Ok x) = Marked old new
LeavesMarked old new (Err e) = KeepsLast old new

pub record Marks {A E : Type 0} (old new : State) (r : Result A E) : Type 0 where
  pub leaves : IsInBatch old → IsTrue new.is_open → LeavesMarked old new r
  pub clean : doubt old.is_clean ≤ doubt new.is_clean
  pub stops : HasCleanDisk new → (db : Trees) → new.may_leave db → old.may_leave db
  pub up : HasCleanDisk new → OnOk r (IsTrue old.is_open × IsTrue new.is_open)

-- the change ends with what it has made
abbrev pub LeavesReleased : {A E : Type 0} → State → State → Result A E → Type 0
LeavesReleased old new (Ok x) = Begun old new
LeavesReleased old new (Err e) = KeepsLast old new

pub record Releases {A E : Type 0} (old new : State) (r : Result A E) : Type 0 where
  pub clean : doubt old.is_clean ≤ doubt new.is_clean
  pub up : HasCleanDisk new → OnOk r (IsTrue old.is_open × IsTrue new.is_open)
  pub leaves : (before : List Savepoint) (first : Database) → IsInChange before first old → IsTrue new.is_open → LeavesReleased old new r
  pub stops : (before : List Savepoint) (first : Database) → IsInChange before first old → Stops old new r

-- what it has made is undone
pub record GoneBack (before : List Savepoint) (first : Database) (old new : State) : Type 0 where
  pub was_open : IsTrue old.is_open
  pub now : new.now ≡ first
  pub committed : new.committed ≡ old.committed
  pub since : IsSince before first new

abbrev pub LeavesGoneBack : {A E : Type 0} → List Savepoint → Database → State → State → Result A E → Type 0
LeavesGoneBack before first old new (Ok x) = GoneBack before first old new
LeavesGoneBack before first old new (Err e) = KeepsLast old new

pub record GoesBack {A E : Type 0} (old new : State) (r : Result A E) : Type 0 where
  pub leaves : (before : List Savepoint) (first : Database) → (IsTrue old.is_open → IsHub first) → IsInChange before first old → IsTrue new.is_open → LeavesGoneBack before first old new r
  pub clean : doubt old.is_clean ≤ doubt new.is_clean
  pub stops : HasCleanDisk new → (db : Trees) → new.may_leave db → old.may_leave db
  pub up : HasCleanDisk new → OnOk r (IsTrue new.is_open)

-- and the change ends
pub record TakenBack (first : Database) (old new : State) : Type 0 where
  pub was_open : IsTrue old.is_open
  pub now : new.now ≡ first
  pub committed : new.committed ≡ old.committed
  pub batch : InBatch new

abbrev pub LeavesTakenBack : {A E : Type 0} → Database → State → State → Result A E → Type 0
LeavesTakenBack first old new (Ok x) = TakenBack first old new
LeavesTakenBack first old new (Err e) = KeepsLast old new

pub record TakesBack {A E : Type 0} (old new : State) (r : Result A E) : Type 0 where
  pub leaves : (before : List Savepoint) (first : Database) → (IsTrue old.is_open → IsHub first) → IsInChange before first old → IsTrue new.is_open → LeavesTakenBack first old new r
  pub clean : doubt old.is_clean ≤ doubt new.is_clean
  pub stops : (before : List Savepoint) (first : Database) → (IsTrue old.is_open → IsHub first) → IsInChange before first old → HasCleanDisk new → (db : Trees) → new.may_leave db → old.may_leave db
  pub up : HasCleanDisk new → OnOk r (IsTrue new.is_open)

-- a call adds a change to an open batch; a change that fails alone keeps the batch
abbrev pub LeavesMore : {A : Type 0} → (Trees → Trees → Type 0) → State → State → Result A NotMade → Type 0
LeavesMore Edit old new (Ok x) = Added Edit old new
LeavesMore Edit old new (Err (Alone f)) = Begun old new
LeavesMore Edit old new (Err (WithBatch f)) = KeepsLast old new

-- and of stops
abbrev pub StopsMore : {A : Type 0} → State → State → Result A NotMade → Type 0
StopsMore old new (Ok x) = StaysOpen old new
StopsMore old new (Err (Alone f)) = StaysOpen old new
StopsMore old new (Err (WithBatch f)) = IsUncommitted old new

pub record AddsMore {A : Type 0} (Edit : Trees → Trees → Type 0) (old new : State) (r : Result A NotMade) : Type 0 where
  pub leaves : IsTrue new.is_open → LeavesMore Edit old new r
  pub stops : StopsMore old new r

-- ---- a commit

-- the edits of the batch are committed, and these more
pub record Committed (Edit : Trees → Trees → Type 0) (old new : State) : Type 0 where
  pub was_open : IsTrue old.is_open
  pub edit : Edit old.now.trees new.now.trees
  pub committed : new.committed ≡ new.now
  pub ended : new.in_transaction ≡ false
  pub serves : Serves new

abbrev pub LeavesCommitted : {A E : Type 0} → (Trees → Trees → Type 0) → State → State → Result A E → Type 0
LeavesCommitted Edit old new (Ok x) = Committed Edit old new
LeavesCommitted Edit old new (Err e) = KeepsLast old new

-- An edit is made and committed with the batch, if this holds where it begins; a stop leaves what it would have left before
-- the call, or all of that.
pub record CommitsIf {A E : Type 0} (Begins : State → Type 0) (Edit : Trees → Trees → Type 0) (old new : State) (r : Result A E) : Type 0 where
  pub leaves : Begins old → IsTrue new.is_open → LeavesCommitted Edit old new r
  pub clean : Begins old → doubt old.is_clean ≤ doubt new.is_clean
  pub crash : Begins old → IsTrue old.is_open → HasCleanDisk new → (db : Trees) → new.may_leave db → old.may_leave db ⊎ Edit old.now.trees db
  pub up : Begins old → IsTrue old.is_open → HasCleanDisk new → OnOk r (IsTrue new.is_open)

-- the batch is committed, with an edit more
abbrev pub Commits : {A E : Type 0} → (Trees → Trees → Type 0) → State → State → Result A E → Type 0
Commits Edit old new r = CommitsIf IsInBatch Edit old new r

-- so many changes are on record, and the rows of the hub are what this makes of them
pub record IsCounted (f : Rows → Rows) (count : ℕ) (old new : Trees) : Type 0 where
  pub rows : rows_of new ≡ f (rows_of old)
  pub counted : changes_in new ≡ count

-- the rows of the hub are as they were
abbrev pub same_rows : Rows → Rows
same_rows rows = rows

-- ---- after a call that failed

abbrev pub LeavesGoing : Bool → State → State → Type 0
LeavesGoing true old new = Begun old new
LeavesGoing false old new = KeepsLast old new

-- whether the batch is still there
pub record TellsGoing (old new : State) (going : Bool) : Type 0 where
  pub leaves : IsInBatch old → IsTrue new.is_open → LeavesGoing going old new
  pub clean : doubt old.is_clean ≤ doubt new.is_clean
  pub stops : IsInBatch old → HasCleanDisk new → (db : Trees) → new.may_leave db → old.may_leave db
  pub up : HasCleanDisk new → going ≡ true → IsTrue new.is_open

-- an open connection without a batch
pub record IsResting (s : State) : Type 0 where
  pub serves : Serves s
  pub over : s.in_transaction ≡ false

abbrev pub IsRested : State → Type 0
IsRested s = IsTrue s.is_open → IsResting s

-- the tables are as they were, and no batch is open
pub record Rested (old new : State) : Type 0 where
  pub was_open : IsTrue old.is_open
  pub now : new.now.trees ≡ old.now.trees
  pub committed : new.committed.trees ≡ old.committed.trees
  pub resting : IsResting new

abbrev pub LeavesRested : {A E : Type 0} → State → State → Result A E → Type 0
LeavesRested old new (Ok x) = Rested old new
LeavesRested old new (Err e) = KeepsLast old new

-- whether the connection is open, where no batch is
pub record Tries {A E : Type 0} (old new : State) (r : Result A E) : Type 0 where
  pub leaves : IsRested old → IsTrue new.is_open → LeavesRested old new r
  pub clean : IsRested old → doubt old.is_clean ≤ doubt new.is_clean
  pub stops : IsRested old → HasCleanDisk new → (db : Trees) → new.may_leave db → old.may_leave db ⊎ (IsTrue old.is_open × (db ≡ old.committed.trees))
  pub up : IsRested old → HasCleanDisk new → OnOk r (IsTrue new.is_open)
