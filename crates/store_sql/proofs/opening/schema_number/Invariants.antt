use Rattle.std.proofs.Common.{ℤ, take}
use Rattle.sqlite_rules.specs.Lists.{Has}
use Rattle.store_sql.specs.Known.{number_row}
use Rattle.store_sql.proofs.opening.schema_number.Given as goal

abbrev pub invariant-rows : goal.invariant-rows
invariant-rows l = (n : ℤ) → Has (take l.row-index l.rows) (number_row n) → ⊥
