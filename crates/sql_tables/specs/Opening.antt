-- How the tables and their indexes come to be.
use Rattle.std.specs.Prelude.{◌≡◌, ℕ, zero, suc, false, List, [], ◌∷◌, slice_get, Some, Result, Ok, Err}
use Rattle.sqlite_schema.specs.declared.schema.Schema.{Schema}
use Rattle.sqlite_schema.specs.declared.schema.Table.{Table}
use Rattle.sqlite_schema.specs.declared.schema.Index.{Index}
use Rattle.sqlite_schema.specs.declared.command.Command.{Command}
use Rattle.sqlite_schema.specs.declared.command.Command.TheVariants.{CreateTable, CreateIndex, DropIndex, Nothing}
use Rattle.sqlite_catalog.specs.Change.{created}
use Rattle.sqlite.specs.Compile.{table_defined_by, index_defined_by}
use Rattle.sqlite_resolve.specs.declared.compiled.Compiled.{Compiled}
use Rattle.sqlite_resolve.specs.declared.error.CompileError.{CompileError}
use Rattle.sqlite.specs.Does.{lacks_sequence}
use Rattle.sqlite.specs.Given.{IsPlain}
use Rattle.sqlite.specs.Listing.{understood}
use Rattle.sqlite.specs.State.{text_of}
use Rattle.sql_tables.specs.Tables.{first_tables, second_tables, third_tables, fourth_tables, fifth_tables, hub_reading, hub_meter_value, hub_reading_transaction, hub_meter_value_transaction, with_indexes}
use Rattle.sql_tables.specs.declared.meter_values.TheConstants as meter_values
use Rattle.sql_tables.specs.declared.readings.TheConstants as readings
use Rattle.sql_tables.specs.declared.txs.TheConstants as txs

-- an empty database
abbrev pub no_schema : Schema
no_schema = record { tables = []; indexes = []; views = [] }

-- ---- the forms of a database

-- the form of the databases of this program; the forms are numbered in the order in which a database is raised from one to
-- the next: 0 is empty, 1 and 2 are schemas 1 and 2, 3 and 4 are the earlier and the later form of schema 3, which differ
-- in the columns of hub_tx_is_open, and 5 and 6 are schemas 4 and 5
abbrev pub our_form : ℕ
our_form = 6

-- the number of the schema of a database of this form, 0 where it is empty
abbrev pub number_of : ℕ → ℕ
number_of zero = 0
number_of (suc zero) = 1
number_of (suc (suc zero)) = 2
number_of (suc (suc (suc zero))) = 3
number_of (suc (suc (suc (suc zero)))) = 3
number_of (suc (suc (suc (suc (suc zero))))) = 4
number_of (suc (suc (suc (suc (suc (suc n)))))) = 5

-- the number of the schema of this program
abbrev pub our_number : ℕ
our_number = number_of our_form

-- the tables of each form
abbrev pub tables_at : ℕ → Schema
tables_at zero = no_schema
tables_at (suc zero) = first_tables
tables_at (suc (suc zero)) = second_tables
tables_at (suc (suc (suc zero))) = third_tables
tables_at (suc (suc (suc (suc zero)))) = third_tables
tables_at (suc (suc (suc (suc (suc zero))))) = fourth_tables
tables_at (suc (suc (suc (suc (suc (suc n)))))) = fifth_tables

-- the columns of hub_tx_is_open in each form
abbrev pub open_columns_at : ℕ → List ℕ
open_columns_at zero = []
open_columns_at (suc zero) = 1 ∷ 2 ∷ 12 ∷ []
open_columns_at (suc (suc zero)) = 1 ∷ 2 ∷ 12 ∷ []
open_columns_at (suc (suc (suc zero))) = 1 ∷ 2 ∷ 12 ∷ []
open_columns_at (suc (suc (suc (suc n)))) = 1 ∷ 12 ∷ 2 ∷ []

-- the text that makes it there
abbrev pub create_tx_is_open_at : ℕ → List ℕ
create_tx_is_open_at zero = txs.CREATE_EARLIER_IS_OPEN.now
create_tx_is_open_at (suc zero) = txs.CREATE_EARLIER_IS_OPEN.now
create_tx_is_open_at (suc (suc zero)) = txs.CREATE_EARLIER_IS_OPEN.now
create_tx_is_open_at (suc (suc (suc zero))) = txs.CREATE_EARLIER_IS_OPEN.now
create_tx_is_open_at (suc (suc (suc (suc n)))) = txs.CREATE_IS_OPEN.now

-- the columns of hub_tx_start_at in each form
abbrev pub start_columns_at : ℕ → List ℕ
start_columns_at zero = []
start_columns_at (suc zero) = 1 ∷ 2 ∷ 7 ∷ []
start_columns_at (suc (suc zero)) = 1 ∷ 2 ∷ 7 ∷ []
start_columns_at (suc (suc (suc zero))) = 1 ∷ 2 ∷ 7 ∷ []
start_columns_at (suc (suc (suc (suc zero)))) = 1 ∷ 2 ∷ 7 ∷ []
start_columns_at (suc (suc (suc (suc (suc n))))) = 1 ∷ 2 ∷ 7 ∷ 4 ∷ 6 ∷ 5 ∷ []

-- the text that makes it there
abbrev pub create_tx_start_at : ℕ → List ℕ
create_tx_start_at zero = txs.CREATE_EARLIER_START_AT.now
create_tx_start_at (suc zero) = txs.CREATE_EARLIER_START_AT.now
create_tx_start_at (suc (suc zero)) = txs.CREATE_EARLIER_START_AT.now
create_tx_start_at (suc (suc (suc zero))) = txs.CREATE_EARLIER_START_AT.now
create_tx_start_at (suc (suc (suc (suc zero)))) = txs.CREATE_EARLIER_START_AT.now
create_tx_start_at (suc (suc (suc (suc (suc n))))) = txs.CREATE_START_AT.now

-- the index of readings by their transaction in each form: of hub_reading up to schema 3, and of hub_meter_value since
-- then
abbrev pub by_transaction_at : ℕ → ℕ → Index
by_transaction_at zero = hub_reading_transaction
by_transaction_at (suc zero) = hub_reading_transaction
by_transaction_at (suc (suc zero)) = hub_reading_transaction
by_transaction_at (suc (suc (suc zero))) = hub_reading_transaction
by_transaction_at (suc (suc (suc (suc zero)))) = hub_reading_transaction
by_transaction_at (suc (suc (suc (suc (suc n))))) = hub_meter_value_transaction

-- its table, and the place of that table there
abbrev pub readings_at : ℕ → Table
readings_at zero = hub_reading
readings_at (suc zero) = hub_reading
readings_at (suc (suc zero)) = hub_reading
readings_at (suc (suc (suc zero))) = hub_reading
readings_at (suc (suc (suc (suc zero)))) = hub_reading
readings_at (suc (suc (suc (suc (suc n))))) = hub_meter_value

abbrev pub place_of_readings_at : ℕ → ℕ
place_of_readings_at zero = 6
place_of_readings_at (suc zero) = 6
place_of_readings_at (suc (suc zero)) = 6
place_of_readings_at (suc (suc (suc zero))) = 6
place_of_readings_at (suc (suc (suc (suc zero)))) = 6
place_of_readings_at (suc (suc (suc (suc (suc n))))) = 13

-- the texts that make it and drop it there
abbrev pub create_by_transaction_at : ℕ → List ℕ
create_by_transaction_at zero = readings.CREATE_TRANSACTION.now
create_by_transaction_at (suc zero) = readings.CREATE_TRANSACTION.now
create_by_transaction_at (suc (suc zero)) = readings.CREATE_TRANSACTION.now
create_by_transaction_at (suc (suc (suc zero))) = readings.CREATE_TRANSACTION.now
create_by_transaction_at (suc (suc (suc (suc zero)))) = readings.CREATE_TRANSACTION.now
create_by_transaction_at (suc (suc (suc (suc (suc n))))) = meter_values.CREATE_TRANSACTION.now

abbrev pub drop_by_transaction_at : ℕ → List ℕ
drop_by_transaction_at zero = readings.DROP_TRANSACTION.now
drop_by_transaction_at (suc zero) = readings.DROP_TRANSACTION.now
drop_by_transaction_at (suc (suc zero)) = readings.DROP_TRANSACTION.now
drop_by_transaction_at (suc (suc (suc zero))) = readings.DROP_TRANSACTION.now
drop_by_transaction_at (suc (suc (suc (suc zero)))) = readings.DROP_TRANSACTION.now
drop_by_transaction_at (suc (suc (suc (suc (suc n))))) = meter_values.DROP_TRANSACTION.now

-- the schema of each form: all tables, and then the further indexes
abbrev pub schema_at : ℕ → Schema
schema_at zero = no_schema
schema_at (suc n) = with_indexes (open_columns_at (suc n)) (start_columns_at (suc n)) (by_transaction_at (suc n)) (tables_at (suc n))

-- ---- what a text does

abbrev pub command_in : Result Compiled CompileError → Command
command_in (Ok c) = c.command
command_in (Err e) = Nothing

abbrev pub text_in : List ℕ → Result Compiled CompileError → List ℕ
text_in sql (Ok c) = text_of sql c
text_in sql (Err e) = []

-- over a schema the text creates this table
pub record IsCreate (sql : List ℕ) (from : Schema) (table : Table) : Type 0 where
  pub command : command_in (understood from sql) ≡ CreateTable
  pub plain : IsPlain (understood from sql)
  pub text : text_in sql (understood from sql) ≡ sql
  pub defined : table_defined_by sql ≡ Ok table
  pub uncounted : lacks_sequence (created from table) ≡ false

-- over a schema the text creates this index of the table at that place
pub record IsIndexCreate (sql : List ℕ) (from : Schema) (at : ℕ) (table : Table) (index : Index) : Type 0 where
  pub command : command_in (understood from sql) ≡ CreateIndex at
  pub plain : IsPlain (understood from sql)
  pub text : text_in sql (understood from sql) ≡ sql
  pub here : slice_get from.tables at ≡ Some table
  pub defined : index_defined_by table sql ≡ Ok index

-- over a schema the text drops this index
pub record IsIndexDrop (sql : List ℕ) (from : Schema) (index : Index) : Type 0 where
  pub at : ℕ
  pub command : command_in (understood from sql) ≡ DropIndex at
  pub plain : IsPlain (understood from sql)
  pub here : slice_get from.indexes at ≡ Some index
