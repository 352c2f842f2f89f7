-- What a connection keeps, and what a call makes of it.
use Rattle.std.specs.Prelude.{◌≡◌, ◌⊎◌, ◌&&◌, ℕ, ◌+◌, codes, find, nat_le, ◌≤◌, false, true, not, Option, None, Some, option_map, List, [], ◌∷◌, map, filter, take, Bool, IsTrue, Result, Ok, Err, IsOk, OnOk, OnErr, IfOk}
use Rattle.std.specs.declared.cmp.Ordering.TheVariants.{Equal}
use Rattle.std.specs.Str.{bytes_eq}
use Rattle.sqlite_rules.specs.Lists.{Has}
use Rattle.sqlite_value.specs.Order.{Row, column}
use Rattle.sqlite_trees.specs.Tree.{Trees}
use Rattle.sqlite_trees.specs.View.{doubt}
use Rattle.sqlite_schema.specs.declared.schema.Constraint.{Constraint}
use Rattle.sqlite.specs.declared.error.Error.{Error}
use Rattle.sqlite.specs.declared.error.Error.TheVariants.{SqliteFailure}
use Rattle.sqlite.specs.declared.error.ErrorCode.TheVariants.{ConstraintViolation}
use Rattle.sqlite.specs.declared.transaction.Transaction.{Transaction}
use Rattle.sqlite.specs.Effect.{Database, IsDatabase}
use Rattle.sqlite.specs.Held.{state}
use Rattle.sqlite.specs.State.{State, CommitsBy, Executes, HasCleanDisk, Survives}
use Rattle.sqlite.specs.Store.{Ghosts}
use Rattle.hub_rows.specs.Keyed.{first, greatest, put, put_all}
use Rattle.hub_rows.specs.Rows.{Rows}
use Rattle.sql_tables.specs.Opening.{our_number}
use Rattle.sql_tables.specs.Tables.{hub_schema}
use Rattle.sql_rows.specs.declared.meta_rows.MetaRow.{MetaRow}
use Rattle.sql_rows.specs.TypedTable.{TypedTable, cmp, rows_in, AreTyped, Spares}
use Rattle.sql_rows.specs.TypedTables.{hub_good, metas, rows_of}
use Rattle.sql_rows.specs.Values.{count_in, first_text}

-- ---- the rows of hub_meta

-- the row that has the number of our schema
abbrev pub our_meta : MetaRow
our_meta = record { name = codes "schema"; number = our_number }

-- the number of our schema is on record
abbrev pub IsNumbered : Trees → Type 0
IsNumbered db = Has (rows_in metas db) our_meta

-- the row that counts changes
abbrev pub count_meta : ℕ → MetaRow
count_meta n = record { name = codes "changes"; number = n }

abbrev pub is_count : MetaRow → Bool
is_count m = bytes_eq m.name (codes "changes")

-- how many changes that row counts, 0 where there is none
abbrev pub changes_of : Option MetaRow → ℕ
changes_of None = 0
changes_of (Some m) = m.number

-- how many changes are counted
abbrev pub changes_in : Trees → ℕ
changes_in db = changes_of (find is_count (rows_in metas db))

-- a row of a station of operator b whose number lies in a range
abbrev pub is_between : {R : Type 0} → (R → List ℕ) → (R → List ℕ) → (R → ℕ) → List ℕ → List ℕ → ℕ → ℕ → R → Bool
is_between op station number b st first last r = bytes_eq (op r) b && (bytes_eq (station r) st && (nat_le first (number r) && nat_le (number r) last))

-- ---- a connection

-- a database with our tables, rows that this project writes, and the number of our schema
pub record IsHub (d : Database) : Type 0 where
  pub schema : d.schema ≡ hub_schema
  pub sound : IsDatabase d
  pub rows : AreTyped hub_schema hub_good d.trees
  pub numbered : IsNumbered d.trees

-- kept while the connection is open, between changes: of what they have made, and of what the last commit left, which is
-- all where no transaction is open
pub record Serves (s : State) : Type 0 where
  pub now : IsHub s.now
  pub last : IsHub s.committed
  pub settled : s.in_transaction ≡ false → s.committed ≡ s.now

abbrev pub IsServing : State → Type 0
IsServing s = IsTrue s.is_open → Serves s

pub record IsAsBefore (old new : State) : Type 0 where
  pub was_open : IsTrue old.is_open
  pub now : new.now ≡ old.now
  pub committed : new.committed ≡ old.committed
  pub mode : new.in_transaction ≡ old.in_transaction
  pub marks : old.in_transaction ≡ true → new.marks ≡ old.marks
  pub serves : Serves new

-- a failure has undone the transaction that was open
pub record IsUndone (old new : State) : Type 0 where
  pub was_open : IsTrue old.is_open
  pub begun : old.in_transaction ≡ true
  pub ended : new.in_transaction ≡ false
  pub now : new.now ≡ old.committed
  pub committed : new.committed ≡ old.committed
  pub serves : Serves new

-- all is as it was, or undone
abbrev pub IsAsBeforeOrUndone : State → State → Type 0
IsAsBeforeOrUndone old new = IsAsBefore old new ⊎ IsUndone old new

-- what a call leaves that changes nothing, by its answer
abbrev pub LeavesAll : {A E : Type 0} → State → State → Result A E → Type 0
LeavesAll old new (Ok x) = IsAsBefore old new
LeavesAll old new (Err e) = IsAsBeforeOrUndone old new

-- ---- reads

-- a call that changes nothing
abbrev pub Rests : {A E : Type 0} → State → State → Result A E → Type 0
Rests old new r = IsServing old → IsTrue new.is_open → LeavesAll old new r

-- nothing is committed and no fault of the disk is forgotten: a stop leaves what it would have left before the call
pub record IsUncommitted (old new : State) : Type 0 where
  pub clean : doubt old.is_clean ≤ doubt new.is_clean
  pub leaves : IsTrue old.is_open → HasCleanDisk new → (db : Trees) → new.may_leave db → old.may_leave db

-- the same, and the connection is still open
pub record StaysOpen (old new : State) : Type 0 where
  pub stops : IsUncommitted old new
  pub up : IsTrue old.is_open → HasCleanDisk new → IsTrue new.is_open

-- what a read says of stops, by its answer
abbrev pub CommitsNothing : {A E : Type 0} → State → State → Result A E → Type 0
CommitsNothing old new (Ok x) = IsServing old → StaysOpen old new
CommitsNothing old new (Err e) = IsServing old → IsUncommitted old new

-- what a call answers, of the tables
abbrev pub FindsIn : {A E : Type 0} → State → State → Result A E → (Trees → A → Type 0) → Type 0
FindsIn old new r P = IsServing old → IsTrue new.is_open → IfOk r (P old.now.trees)

-- the rows of an answer are those that pass, and nothing changes
pub record Shows {V T : Type 0} (items : V → List Row) (s : TypedTable T) (p : T → Bool) (old new : State) (r : Result V Error) : Type 0 where
  pub ok : IsTrue new.is_open → IfOk r (λ v. put_all (cmp s) (map s.read (items v)) [] ≡ filter p (rows_in s old.now.trees))
  -- each key is shown once
  pub once : IsTrue new.is_open → IfOk r (λ v. (a b : T) → Has (map s.read (items v)) a → Has (map s.read (items v)) b → cmp s a b ≡ Equal → a ≡ b)
  pub same : IsTrue new.is_open → LeavesAll old new r
  pub stops : CommitsNothing old new r

-- the number that is shown in that column is the greatest of the rows that pass, and nothing changes
pub record ShowsLast {V T : Type 0} (items : V → List Row) (at : ℕ) (s : TypedTable T) (number : T → ℕ) (p : T → Bool) (old new : State) (r : Result V Error) : Type 0 where
  pub ok : IsTrue new.is_open → IfOk r (λ v. greatest (map (λ x. count_in (column x at)) (items v)) ≡ greatest (map number (filter p (rows_in s old.now.trees))))
  pub same : IsTrue new.is_open → LeavesAll old new r
  pub stops : CommitsNothing old new r

-- the first rows that pass are shown, at most n of them, and nothing changes
pub record ShowsPage {V T : Type 0} (n : ℕ) (items : V → List Row) (s : TypedTable T) (p : T → Bool) (old new : State) (r : Result V Error) : Type 0 where
  pub ok : IsTrue new.is_open → IfOk r (λ v. put_all (cmp s) (map s.read (items v)) [] ≡ take n (filter p (rows_in s old.now.trees)))
  pub same : IsTrue new.is_open → LeavesAll old new r
  pub stops : CommitsNothing old new r

-- none of none, or one of some with the greatest number
abbrev pub IsTop : {T : Type 0} → (T → ℕ) → List T → List T → Type 0
IsTop {T} number all [] = all ≡ []
IsTop {T} number all (t ∷ ts) = (ts ≡ []) × Has all t × ((u : T) → Has all u → number u ≤ number t)

-- the cells of a row with the greatest number, if there are any
abbrev pub AreTopCells : {T : Type 0} → (T → Row) → (T → ℕ) → List T → List Row → Type 0
AreTopCells {T} cells number all rows = (ts : List T) × IsTop number all ts × (rows ≡ map cells ts)

-- the cells that are shown are those of the row with the greatest number of those that pass, and nothing changes
pub record ShowsTopCells {V T : Type 0} (items : V → List Row) (s : TypedTable T) (cells : T → Row) (number : T → ℕ) (p : T → Bool) (old new : State) (r : Result V Error) : Type 0 where
  pub ok : IsTrue new.is_open → IfOk r (λ v. AreTopCells cells number (filter p (rows_in s old.now.trees)) (items v))
  pub same : IsTrue new.is_open → LeavesAll old new r
  pub stops : CommitsNothing old new r

-- the text that is shown is that of the first row that passes, if there are any, and nothing changes
pub record ShowsText {V T : Type 0} (items : V → List Row) (s : TypedTable T) (text : T → List ℕ) (p : T → Bool) (old new : State) (r : Result V Error) : Type 0 where
  pub ok : IsTrue new.is_open → IfOk r (λ v. option_map first_text (first (items v)) ≡ option_map text (find p (rows_in s old.now.trees)))
  pub same : IsTrue new.is_open → LeavesAll old new r
  pub stops : CommitsNothing old new r

-- ---- edits of the tables

-- this row is put
pub record IsPutIn {T : Type 0} (s : TypedTable T) (t : T) (old new : Trees) : Type 0 where
  pub rows : rows_in s new ≡ put (cmp s) t (rows_in s old)
  pub frame : Spares hub_schema s.table.tree old new

-- these rows are put, one after the other
pub record ArePutIn {T : Type 0} (s : TypedTable T) (ts : List T) (old new : Trees) : Type 0 where
  pub rows : rows_in s new ≡ put_all (cmp s) ts (rows_in s old)
  pub frame : Spares hub_schema s.table.tree old new

-- the rows that pass are dropped
pub record IsDropped {T : Type 0} (s : TypedTable T) (p : T → Bool) (old new : Trees) : Type 0 where
  pub rows : rows_in s new ≡ filter (λ t. not (p t)) (rows_in s old)
  pub frame : Spares hub_schema s.table.tree old new

-- the rows of the hub are those that this makes of them
abbrev pub IsMade : (Rows → Rows) → Trees → Trees → Type 0
IsMade f old new = rows_of new ≡ f (rows_of old)

-- the same, and where n changes were counted one more is then
abbrev pub IsMadeAfter : ℕ → (Rows → Rows) → Trees → Trees → Type 0
IsMadeAfter n f old new = IsMade f old new × (changes_in old ≡ n → changes_in new ≡ n + 1)

-- ---- changes

-- a batch of changes is open: a transaction, before whose commit a stop leaves the last one
pub record InBatch (s : State) : Type 0 where
  pub serves : Serves s
  pub begun : s.in_transaction ≡ true

abbrev pub IsInBatch : State → Type 0
IsInBatch s = IsTrue s.is_open → InBatch s

-- it goes on, with the savepoints that it had
pub record GoesOn (old new : State) : Type 0 where
  pub was_open : IsTrue old.is_open
  pub was_begun : old.in_transaction ≡ true
  pub batch : InBatch new
  pub committed : new.committed ≡ old.committed
  pub marks : new.marks ≡ old.marks

-- a part of a change has made an edit of the tables
pub record Edited (Edit : Trees → Trees → Type 0) (old new : State) : Type 0 where
  pub on : GoesOn old new
  pub edit : Edit old.now.trees new.now.trees

-- what a part of a change leaves, by its answer: its edit; or some of it, or nothing of the batch
abbrev pub LeavesEdit : {A E : Type 0} → (Trees → Trees → Type 0) → State → State → Result A E → Type 0
LeavesEdit Edit old new (Ok x) = Edited Edit old new
LeavesEdit Edit old new (Err e) = GoesOn old new ⊎ IsUndone old new

-- what a call says of stops, by its answer
abbrev pub Stops : {A E : Type 0} → State → State → Result A E → Type 0
Stops old new (Ok x) = StaysOpen old new
Stops old new (Err e) = IsUncommitted old new

-- a part of a change makes an edit of the tables, if this holds where it begins
pub record EditsIf {A E : Type 0} (Begins : State → Type 0) (Edit : Trees → Trees → Type 0) (old new : State) (r : Result A E) : Type 0 where
  pub leaves : Begins old → IsTrue new.is_open → LeavesEdit Edit old new r
  pub stops : Begins old → Stops old new r

-- in a batch
abbrev pub EditsIn : {A E : Type 0} → (Trees → Trees → Type 0) → State → State → Result A E → Type 0
EditsIn Edit old new r = EditsIf IsInBatch Edit old new r

-- it makes this of the rows of the hub
abbrev pub Edits : {A E : Type 0} → (Rows → Rows) → State → State → Result A E → Type 0
Edits f old new r = EditsIn (IsMade f) old new r

-- nothing is changed
abbrev pub IsSame : Trees → Trees → Type 0
IsSame old new = new ≡ old

-- how many rows a statement says that it changed
abbrev pub rows_changed : Result ℕ Error → ℕ
rows_changed (Ok n) = n
rows_changed (Err e) = 0

-- a row is added, or a constraint refuses it
abbrev pub IsAdded : Bool → Result ℕ Error → Type 0
IsAdded true r = IsOk r
IsAdded false r = (rule : Constraint) × (r ≡ Err (SqliteFailure (ConstraintViolation rule)))

-- a statement ran with these values
pub record Ran (sql : List ℕ) (values : Row) (old new : State) (r : Result ℕ Error) : Type 0 where
  pub runs : HasCleanDisk new → Executes sql values old new r
  pub survives : Survives old new (CommitsBy sql values old)
  pub clean : IsTrue new.is_open → HasCleanDisk new

-- ---- look-ups

-- what a look-up says, of the tables
pub record AsksIn {A E : Type 0} (old new : State) (r : Result A E) (P : Trees → A → Type 0) : Type 0 where
  -- what it answers
  pub found : FindsIn old new r P
  -- nothing changes
  pub same : Rests old new r
  -- a stop of the program leaves what it would have left before the call
  pub stops : CommitsNothing old new r

-- what a look-up says, of the rows of the hub
abbrev pub Asks : {A E : Type 0} → State → State → Result A E → (Rows → A → Type 0) → Type 0
Asks old new r P = AsksIn old new r (λ db. P (rows_of db))

-- ---- the transaction that raises a database of an earlier form

-- kept while the connection is open, inside a transaction
pub record Within (s : State) : Type 0 where
  pub schema : s.now.schema ≡ hub_schema
  pub sound : IsDatabase s.now
  pub rows : AreTyped hub_schema hub_good s.now.trees
  pub mode : s.in_transaction ≡ true

abbrev pub IsInside : State → Type 0
IsInside s = IsTrue s.is_open → Within s

-- nothing is committed
pub record Leaves (old new : State) : Type 0 where
  pub was_open : IsTrue new.is_open → IsTrue old.is_open
  pub committed : IsTrue new.is_open → new.committed ≡ old.committed
  pub survives : Survives old new (λ _. ⊥)

-- a part of a transaction is done
pub record Inside (Edit : Trees → Trees → Type 0) (old new : State) : Type 0 where
  pub leaves : Leaves old new
  pub within : IsTrue new.is_open → Within new
  pub edit : IsTrue new.is_open → Edit old.now.trees new.now.trees
  -- the number of our schema stays
  pub numbered : IsTrue new.is_open → IsNumbered old.now.trees → IsNumbered new.now.trees
  pub still : IsTrue old.is_open → HasCleanDisk new → IsTrue new.is_open

-- what a part of a transaction answers
pub record Goes {A E : Type 0} (Edit : Trees → Trees → Type 0) (old new : State) (r : Result A E) : Type 0 where
  pub ok : OnOk r (Inside Edit old new)
  pub err : OnErr r (Leaves old new)

-- a part of a transaction makes an edit of the tables, if this holds where it begins; the connection is the one that was
-- lent
pub record MakesIf {S A E : Type 0} (g : Ghosts S) (Begins : State → Type 0) (Edit : Trees → Trees → Type 0) (old new : Transaction S) (r : Result A E) : Type 0 where
  pub same_reference : new.conn.ghost_name ≡ old.conn.ghost_name
  pub goes : Begins (state g old.conn.now) → Goes Edit (state g old.conn.now) (state g new.conn.now) r

-- a part of a transaction makes an edit of the tables
abbrev pub MakesIn : {S A E : Type 0} → Ghosts S → (Trees → Trees → Type 0) → Transaction S → Transaction S → Result A E → Type 0
MakesIn g Edit old new r = MakesIf g IsInside Edit old new r

-- what a look-up inside a transaction says, of the tables
pub record AsksInsideIn {S A E : Type 0} (g : Ghosts S) (old new : Transaction S) (r : Result A E) (P : Trees → A → Type 0) : Type 0 where
  pub same_reference : new.conn.ghost_name ≡ old.conn.ghost_name
  -- what it answers
  pub found : IsInside (state g old.conn.now) → IsTrue (state g new.conn.now).is_open → IfOk r (P (state g old.conn.now).now.trees)
  -- nothing changes
  pub goes : IsInside (state g old.conn.now) → Goes IsSame (state g old.conn.now) (state g new.conn.now) r

-- the rows of an answer inside a transaction are those that pass, and nothing changes
pub record ShowsInside {V T S : Type 0} (g : Ghosts S) (items : V → List Row) (s : TypedTable T) (p : T → Bool) (old new : Transaction S) (r : Result V Error) : Type 0 where
  pub same_reference : new.conn.ghost_name ≡ old.conn.ghost_name
  pub ok : IsInside (state g old.conn.now) → IsTrue (state g new.conn.now).is_open → IfOk r (λ v. put_all (cmp s) (map s.read (items v)) [] ≡ filter p (rows_in s (state g old.conn.now).now.trees))
  pub goes : IsInside (state g old.conn.now) → Goes IsSame (state g old.conn.now) (state g new.conn.now) r

-- one row that is there, or none of none
abbrev pub IsAny : {T : Type 0} → List T → List T → Type 0
IsAny rows [] = rows ≡ []
IsAny rows (t ∷ ts) = (ts ≡ []) × Has rows t

-- one of all rows is shown inside a transaction, and nothing changes
pub record ShowsAnyInside {V T S : Type 0} (g : Ghosts S) (items : V → List Row) (s : TypedTable T) (old new : Transaction S) (r : Result V Error) : Type 0 where
  pub same_reference : new.conn.ghost_name ≡ old.conn.ghost_name
  pub ok : IsInside (state g old.conn.now) → IsTrue (state g new.conn.now).is_open → IfOk r (λ v. IsAny (rows_in s (state g old.conn.now).now.trees) (map s.read (items v)))
  pub goes : IsInside (state g old.conn.now) → Goes IsSame (state g old.conn.now) (state g new.conn.now) r
