-- Which faults refuse a database for what is in it, and which databases are never refused so.
use Rattle.std.specs.Prelude.{◌≡◌, ◌≢◌, ℕ, ◌≤◌, IsTrue, Result, Ok, Err, IfErr}
use Rattle.sqlite.specs.State.{State}
use Rattle.sql_tables.specs.Opening.{our_form, schema_at}
use Rattle.sql_rows.specs.Kept.{IsServing}
use Rattle.sql_rows.specs.Opening.{AreOurs}
use Rattle.store_sql.specs.declared.fault.PrepareFault.{PrepareFault}
use Rattle.store_sql.specs.declared.fault.PrepareFault.TheVariants as prepare_fault

-- a fault of memory, of the disk or of a call, and none that refuses a database for its tables or its number
abbrev pub IsFailure : PrepareFault → Type 0
IsFailure f = (f ≢ prepare_fault.OtherSchema) × (f ≢ prepare_fault.NotOurs) × (f ≢ prepare_fault.Newer)

-- the answer is this number, or a failure
abbrev pub FindsNumber : ℕ → Result ℕ PrepareFault → Type 0
FindsNumber n (Ok number) = number ≡ n
FindsNumber n (Err f) = IsFailure f

-- a database that serves is not refused
abbrev pub AcceptsServing : {A : Type 0} → State → State → Result A PrepareFault → Type 0
AcceptsServing old new r = IsServing old → IsTrue new.is_open → IfErr r IsFailure

-- nor is one that this program wrote, of our form or an earlier one, or an empty one
abbrev pub AcceptsOurs : {A : Type 0} → State → State → Result A PrepareFault → Type 0
AcceptsOurs old new r = (form : ℕ) → form ≤ our_form → old.now.schema ≡ schema_at form → AreOurs form old.now.trees → IsTrue new.is_open → IfErr r IsFailure
