-- What it is for a text to mean a command, over the schema of the hub.
use Rattle.std.specs.Prelude.{◌≡◌, ℕ, List, [], false}
use Rattle.sqlite_sql.specs.Query.{Query}
use Rattle.sqlite.specs.Command.{Command}
use Rattle.sqlite.specs.Command.TheVariants.{Select}
use Rattle.sqlite.specs.Listing.{understood, reads_listing}
use Rattle.sqlite.proofs.Callers.{IsPlain, command_of}
use Rattle.sql_tables.specs.Tables.{hub_schema}

-- a text that changes rows
abbrev pub IsWrite : List ℕ → Command → Type 0
IsWrite sql command = (command_of (understood hub_schema sql) ≡ command) × IsPlain (understood hub_schema sql)

-- a SELECT whose columns have these names
abbrev pub IsRead : List ℕ → Query → List (List ℕ) → Type 0
IsRead sql query names = (command_of (understood hub_schema sql) ≡ Select (record { lets = []; body = query }) names) × IsPlain (understood hub_schema sql) × (reads_listing hub_schema sql ≡ false)
