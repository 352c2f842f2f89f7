-- A database that this program wrote, and what the rows of its hub_meta show.
use Rattle.std.specs.Prelude.{◌≡◌, ℕ, ℤ, pos, ◌<◌, ◌≤◌, List, [], ◌∷◌, codes}
use Rattle.sqlite_rules.specs.Lists.{Has}
use Rattle.sqlite_value.specs.declared.value.Value.TheVariants.{Int, Text}
use Rattle.sqlite_value.specs.Order.{Row}
use Rattle.sqlite_schema.specs.declared.schema.Schema.{Schema}
use Rattle.sqlite.specs.Effect.{Database}
use Rattle.sql_tables.specs.Opening.{number_of, our_form, schema_at}
use Rattle.sql_rows.specs.Opening.{IsNumberedAs}
use Rattle.sql_rows.specs.TypedTable.{AreTyped}
use Rattle.sql_rows.specs.TypedTables.{hub_good}

-- the tables and indexes of this form, which is ours or an earlier one
pub record IsSchemaOf (form : ℕ) (schema : Schema) : Type 0 where
  pub some : 0 < form
  pub known : form ≤ our_form
  pub is : schema ≡ schema_at form

-- a database of that form, with rows that this program writes and the number of its schema on record
pub record IsKnown (form : ℕ) (d : Database) : Type 0 where
  pub tables : IsSchemaOf form d.schema
  pub typed : AreTyped (schema_at form) hub_good d.trees
  pub numbered : IsNumberedAs (number_of form) d.trees

-- ---- the rows of hub_meta, as they are read

-- the row that has the number of the schema
abbrev pub number_row : ℤ → Row
number_row n = Text (codes "schema") ∷ Int n ∷ []

-- such a row is there, with this number, and none with another
pub record ShowsNumber (n : ℕ) (rows : List Row) : Type 0 where
  pub shown : Has rows (number_row (pos n))
  pub alone : (m : ℤ) → Has rows (number_row m) → m ≡ pos n
