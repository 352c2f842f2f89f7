-- How the readings of hub_reading become meter values.
use Rattle.std.specs.Prelude.{◌≡◌, ◌<◌, ℕ, List, [], map, filter, not, Option, Some, None, IsTrue}
use Rattle.sqlite_rules.specs.Lists.{Has}
use Rattle.sqlite_trees.specs.Tree.{Trees}
use Rattle.sqlite.specs.State.{State}
use Rattle.hub_rows.specs.declared.meter_value_row.MeterValueRow.{MeterValueRow}
use Rattle.hub_rows.specs.Keyed.{put, put_all}
use Rattle.sql_rows.specs.declared.reading_rows.ReadingRow.{ReadingRow}
use Rattle.sql_rows.specs.Kept.{Within, is_between}
use Rattle.sql_rows.specs.Opening.{as_meter_value, rows_before, rows_from, values_form}
use Rattle.sql_rows.specs.TypedTable.{cmp, rows_in}
use Rattle.sql_rows.specs.TypedTables.{meter_values, readings, rows_of}

-- one row that is there, if there is one
abbrev pub IsAnyRow : {R : Type 0} → List R → Option R → Type 0
IsAnyRow rows None = rows ≡ []
IsAnyRow rows (Some r) = Has rows r

-- a reading is in hub_meter_value, and no longer in hub_reading
pub record IsMoved (row : ReadingRow) (old new : Trees) : Type 0 where
  pub left : rows_in readings new ≡ filter (λ r. not (is_between (λ r. r.op) (λ r. r.station) (λ r. r.number) row.op row.station row.number row.number r)) (rows_in readings old)
  pub values : rows_in meter_values new ≡ put (cmp meter_values) (as_meter_value row) (rows_in meter_values old)
  pub others : rows_of new ≡ record (rows_of old) { meter_values = rows_in meter_values new }

-- the meter values, with those that the readings that are left become
abbrev pub all_values : Trees → List MeterValueRow
all_values db = put_all (cmp meter_values) (map as_meter_value (rows_in readings db)) (rows_in meter_values db)

-- some readings are moved: none is lost, and none is new
pub record AreMoving (old new : Trees) : Type 0 where
  pub all : all_values new ≡ all_values old
  pub others : rows_of new ≡ record (rows_of old) { meter_values = rows_in meter_values new }

-- all readings are moved
abbrev pub AreMoved : Trees → Trees → Type 0
AreMoved old new = rows_of new ≡ rows_before old

-- what was kept as in a database of this form is kept as in ours
abbrev pub IsKeptFrom : ℕ → Trees → Trees → Type 0
IsKeptFrom form old new = rows_of new ≡ rows_from form old

-- inside a transaction, with no meter value yet
abbrev pub IsUnmoved : State → Type 0
IsUnmoved s = IsTrue s.is_open → Within s × (rows_in meter_values s.now.trees ≡ [])

-- inside a transaction, with no meter value yet where a database of this form has none
abbrev pub IsUnmovedFrom : ℕ → State → Type 0
IsUnmovedFrom form s = IsTrue s.is_open → Within s × (form < values_form → rows_in meter_values s.now.trees ≡ [])
