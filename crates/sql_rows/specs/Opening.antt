-- How a connection is taken over.
use Rattle.std.specs.Prelude.{◌≡◌, ◌⊎◌, ℕ, zero, suc, ◌<◌, ◌≤◌, nat_lt, if◌then◌else◌, codes, true, false, List, [], ◌∷◌, map, IsTrue, Result, OnOk, OnErr}
use Rattle.sqlite_rules.specs.Lists.{Has}
use Rattle.sqlite_trees.specs.Tree.{Trees}
use Rattle.sqlite_trees.specs.View.{doubt}
use Rattle.sqlite_schema.specs.declared.schema.Schema.{Schema}
use Rattle.sqlite_schema.specs.declared.schema.Table.{Table}
use Rattle.sqlite_schema.specs.declared.schema.Index.{Index}
use Rattle.sqlite_catalog.specs.Change.{created, indexed, without_index, next_tree, KeepsRows}
use Rattle.sqlite.specs.declared.transaction.Transaction.{Transaction}
use Rattle.sqlite.specs.Effect.{Database, IsDatabase}
use Rattle.sqlite.specs.Held.{state}
use Rattle.sqlite.specs.State.{State, HasCleanDisk, Survives}
use Rattle.sqlite.specs.Store.{Ghosts}
use Rattle.hub_rows.specs.declared.meter_value_row.MeterValueRow.{MeterValueRow}
use Rattle.hub_rows.specs.Rows.{Rows, no_rows}
use Rattle.hub_rows.specs.WellFormed.{WellFormedRows}
use Rattle.sql_tables.specs.Tables.{hub_schema}
use Rattle.sql_tables.specs.Opening.{our_form, number_of, tables_at, schema_at, IsCreate, IsIndexCreate, IsIndexDrop}
use Rattle.sql_rows.specs.declared.reading_rows.ReadingRow.{ReadingRow}
use Rattle.sql_rows.specs.TypedTable.{AreTyped, rows_in}
use Rattle.sql_rows.specs.TypedTables.{metas, readings, hub_good, rows_of}
use Rattle.sql_rows.specs.Kept.{IsNumbered, Serves, Leaves, Within}

-- the number of a schema is on record
abbrev pub IsNumberedAs : ℕ → Trees → Type 0
IsNumberedAs n db = Has (rows_in metas db) (record { name = codes "schema"; number = n })

-- a reading as a meter value of its own
abbrev pub as_meter_value : ReadingRow → MeterValueRow
as_meter_value r = record { op = r.op; station = r.station; first = r.number; value = record { connector = r.connector; transaction = r.transaction; at = r.at; sampled = r.sampled ∷ [] } }

-- the rows of the hub, where its meter values are the readings of hub_reading
abbrev pub rows_before : Trees → Rows
rows_before db = record (rows_of db) { meter_values = map as_meter_value (rows_in readings db) }

-- the rows of the hub in a database of this form
abbrev pub rows_at : ℕ → Trees → Rows
rows_at zero db = no_rows
rows_at (suc zero) db = record (rows_before db) { reports = []; tx_owners = []; uses = []; readers = [] }
rows_at (suc (suc zero)) db = record (rows_before db) { tx_owners = []; uses = []; readers = [] }
rows_at (suc (suc (suc zero))) db = record (rows_before db) { readers = [] }
rows_at (suc (suc (suc (suc zero)))) db = record (rows_before db) { readers = [] }
rows_at (suc (suc (suc (suc (suc zero))))) db = record (rows_of db) { readers = [] }
rows_at (suc (suc (suc (suc (suc (suc n)))))) db = rows_of db

-- what this project writes into the tables of a database of this form
pub record AreOurs (form : ℕ) (db : Trees) : Type 0 where
  pub typed : AreTyped (schema_at form) hub_good db
  pub good : WellFormedRows (rows_at form db)
  pub numbered : 0 < form → IsNumberedAs (number_of form) db

-- the rows of a database that has our tables, of this form or an earlier one, were written by this project
abbrev pub IsOurs : State → Type 0
IsOurs s = (form : ℕ) → s.now.schema ≡ schema_at form → AreOurs form s.now.trees

-- all tables are there, with these rows of the hub and the number of our schema
pub record Holds (all : Rows) (db : Trees) : Type 0 where
  pub whole : IsDatabase (record { schema = hub_schema; trees = db })
  pub are_typed : AreTyped hub_schema hub_good db
  pub rows : rows_of db ≡ all
  pub numbered : IsNumbered db

-- A database of an earlier form is raised to ours. Rows that were written by this project stay.
pub record IsRaised (old : Database) (new : Trees) : Type 0 where
  pub from : ℕ
  pub earlier : from < our_form
  pub was : old.schema ≡ schema_at from
  pub holds : AreTyped (schema_at from) hub_good old.trees → Holds (rows_at from old.trees) new

-- ---- inside the transaction that raises it

-- the rows of the tables of this form, and none of later ones
abbrev pub trees_at : ℕ → Trees → Trees
trees_at form db t = if nat_lt t (next_tree (tables_at form)) then db t else []

-- there is no row of a table that this form lacks
abbrev pub IsCut : ℕ → Trees → Type 0
IsCut form rows = (t : ℕ) → next_tree (tables_at form) ≤ t → rows t ≡ []

-- with this schema so far, whose tables have the rows of these trees
pub record WithinAs (rows : Trees) (schema : Schema) (s : State) : Type 0 where
  pub schema_is : s.now.schema ≡ schema
  pub sound : IsDatabase s.now
  pub kept : KeepsRows schema.tables rows s.now.trees
  pub mode : s.in_transaction ≡ true

abbrev pub IsInsideAs : Trees → Schema → State → Type 0
IsInsideAs rows schema s = IsTrue s.is_open → WithinAs rows schema s

-- the same, with no row of a table that this form lacks
abbrev pub IsCutAs : ℕ → Schema → Trees → State → Type 0
IsCutAs form schema rows s = IsCut form rows × IsInsideAs rows schema s

-- an earlier form, with no row of a table that it lacks
abbrev pub IsCutTo : ℕ → State → Type 0
IsCutTo form s = (rows : Trees) × IsCutAs form (schema_at form) rows s

-- the first form that keeps meter values
abbrev pub values_form : ℕ
values_form = 5

-- the rows of the hub in our tables, where these have the rows of a database of this form
abbrev pub rows_from : ℕ → Trees → Rows
rows_from zero db = rows_before db
rows_from (suc zero) db = rows_before db
rows_from (suc (suc zero)) db = rows_before db
rows_from (suc (suc (suc zero))) db = rows_before db
rows_from (suc (suc (suc (suc zero)))) db = rows_before db
rows_from (suc (suc (suc (suc (suc n))))) db = rows_of db

-- with these rows of the hub
abbrev pub IsEarlier : ℕ → Rows → State → Type 0
IsEarlier form all s = (rows : Trees) × AreTyped hub_schema hub_good rows × (rows_from form rows ≡ all) × IsCutAs form (schema_at form) rows s

-- our schema, with these rows of the hub
abbrev pub IsInsideWith : Rows → State → Type 0
IsInsideWith all s = IsTrue s.is_open → Within s × (rows_of s.now.trees ≡ all)

-- with all tables
pub record HasTables (rows : Rows) (s : State) : Type 0 where
  pub schema_is : s.now.schema ≡ hub_schema
  pub holds : Holds rows s.now.trees
  pub mode : s.in_transaction ≡ true

-- a part of the transaction commits nothing; the connection is the one that was lent
pub record IsPart {S : Type 0} (g : Ghosts S) (old new : Transaction S) : Type 0 where
  pub same_reference : new.conn.ghost_name ≡ old.conn.ghost_name
  pub leaves : Leaves (state g old.conn.now) (state g new.conn.now)

-- a part of the transaction makes a table or an index, or drops an index
pub record Alters {S A E : Type 0} (g : Ghosts S) (If : Type 0 → Type 0) (sql : List ℕ) (old new : Transaction S) (r : Result A E) : Type 0 where
  pub part : IsPart g old new
  pub table : (rows : Trees) (from : Schema) (table : Table) → IsCreate sql from table → rows (next_tree from) ≡ [] → If (IsInsideAs rows from (state g old.conn.now)) → OnOk r (IsInsideAs rows (created from table) (state g new.conn.now))
  pub index : (rows : Trees) (from : Schema) (at : ℕ) (table : Table) (index : Index) → IsIndexCreate sql from at table index → If (IsInsideAs rows from (state g old.conn.now)) → OnOk r (IsInsideAs rows (indexed from table index) (state g new.conn.now))
  pub dropped : (rows : Trees) (from : Schema) (index : Index) → IsIndexDrop sql from index → If (IsInsideAs rows from (state g old.conn.now)) → OnOk r (IsInsideAs rows (without_index from index.tree) (state g new.conn.now))
  pub up : HasCleanDisk (state g new.conn.now) → OnOk r (IsTrue (state g new.conn.now).is_open)

-- a part of the transaction makes a schema, if this holds where it begins
pub record MakesSchema {S A E : Type 0} (g : Ghosts S) (Begins : Trees → State → Type 0) (to : Schema) (old new : Transaction S) (r : Result A E) : Type 0 where
  pub part : IsPart g old new
  pub makes : (rows : Trees) → Begins rows (state g old.conn.now) → OnOk r (IsInsideAs rows to (state g new.conn.now))

-- in a transaction
abbrev pub IsBegun : State → Type 0
IsBegun s = IsTrue s.is_open → s.in_transaction ≡ true

-- A part of the transaction commits nothing, whatever the tables have. Where it succeeds the transaction goes on. The
-- connection is the one that was lent.
pub record StaysInside {S A E : Type 0} (g : Ghosts S) (old new : Transaction S) (r : Result A E) : Type 0 where
  pub same_reference : new.conn.ghost_name ≡ old.conn.ghost_name
  pub leaves : IsBegun (state g old.conn.now) → Leaves (state g old.conn.now) (state g new.conn.now)
  pub begun : IsBegun (state g old.conn.now) → OnOk r (IsBegun (state g new.conn.now))

-- a part of the transaction leaves our schema, its number and these rows of the hub, if this holds where it begins; it
-- commits nothing, whatever rows there were
pub record MakesOurs {S A E : Type 0} (g : Ghosts S) (MayBegin : State → Type 0) (Begins : Rows → State → Type 0) (old new : Transaction S) (r : Result A E) : Type 0 where
  pub same_reference : new.conn.ghost_name ≡ old.conn.ghost_name
  pub leaves : MayBegin (state g old.conn.now) → Leaves (state g old.conn.now) (state g new.conn.now)
  pub has : (all : Rows) → Begins all (state g old.conn.now) → OnOk r (IsTrue (state g new.conn.now).is_open → HasTables all (state g new.conn.now))
  pub mode : OnOk r (IsBegun (state g new.conn.now))
  pub up : HasCleanDisk (state g new.conn.now) → OnOk r (IsTrue (state g new.conn.now).is_open)

-- ---- the call

-- between transactions, with the last commit seen
pub record Rested (s : State) : Type 0 where
  pub sound : IsTrue s.is_open → IsDatabase s.now
  pub settled : IsTrue s.is_open → s.committed ≡ s.now
  pub mode : s.in_transaction ≡ false

-- all is as it was, and nothing was committed
pub record IsSpared (old new : State) : Type 0 where
  pub was_open : IsTrue new.is_open → IsTrue old.is_open
  pub now : IsTrue new.is_open → new.now ≡ old.now
  pub committed : IsTrue new.is_open → new.committed ≡ old.committed
  pub mode : new.in_transaction ≡ old.in_transaction
  pub survives : Survives old new (λ _. ⊥)

-- What was there is taken, or raised from an earlier form in one step; or nothing changes.
pub record Prepares {A E : Type 0} (old new : State) (r : Result A E) : Type 0 where
  pub serves : IsOurs old → IsTrue new.is_open → OnOk r (Serves new × WellFormedRows (rows_of new.now.trees))
  pub taken : IsTrue new.is_open → OnOk r (((old.now.schema ≡ hub_schema) × (new.now ≡ old.now)) ⊎ IsRaised old.now new.now.trees)
  pub refused : IsTrue new.is_open → OnErr r (IsTrue old.is_open × (new.now ≡ old.now))
  pub crash : IsTrue old.is_open → HasCleanDisk new → (db : Trees) → new.may_leave db → (db ≡ old.committed.trees) ⊎ IsRaised old.now db
  pub durable : IsTrue new.is_open → OnOk r ((db : Trees) → new.may_leave db → db ≡ new.now.trees)
  -- no fault of the disk is forgotten, and with none an Ok leaves the connection open
  pub clean : doubt old.is_clean ≤ doubt new.is_clean
  pub up : HasCleanDisk new → OnOk r (IsTrue new.is_open)
