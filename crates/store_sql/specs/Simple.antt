-- The schemas that can be compared.
use Rattle.std.specs.Prelude.{◌≡◌, [], None}
use Rattle.std.specs.List.{AllByRecursion}
use Rattle.sqlite_value.specs.declared.value.Value.TheVariants.{Null}
use Rattle.sqlite_schema.specs.declared.schema.Column.{Column}
use Rattle.sqlite_schema.specs.declared.schema.Table.{Table}
use Rattle.sqlite_schema.specs.declared.schema.Schema.{Schema}

-- a column whose default is NULL
abbrev pub IsSimpleColumn : Column → Type 0
IsSimpleColumn c = c.default ≡ Null

-- a table of such columns, none of which stands for the rowid, with no CHECK and no default that reads the time
abbrev pub IsSimpleTable : Table → Type 0
IsSimpleTable t = AllByRecursion IsSimpleColumn t.columns × (t.key ≡ None) × (t.checks ≡ []) × (t.stamps.terms ≡ [])

-- such tables, and no view
abbrev pub IsSimple : Schema → Type 0
IsSimple s = AllByRecursion IsSimpleTable s.tables × (s.views ≡ [])
