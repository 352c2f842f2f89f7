-- Id tags of one operator.
use Rattle.std.specs.Prelude.{ℕ, List, Option, find}
use Rattle.std.specs.Str.{bytes_eq}
use Rattle.hub_rows.specs.declared.tag_row.TagRow.{TagRow}

-- the row of a key among them
abbrev pub row_of_key : List ℕ → List TagRow → Option TagRow
row_of_key key tags = find (λ r. bytes_eq r.key key) tags
