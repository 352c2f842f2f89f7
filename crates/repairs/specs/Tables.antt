-- What is read in place of the members of an object, by a table, and of the items of a list.
use Rattle.std.specs.Prelude.{ℕ, nat_eq, List, [], ◌∷◌, if◌then◌else◌, Option, Some, None}
use Rattle.std.specs.Cmp.Lexicographic.{pointwise}
use Rattle.json.specs.Json.{Json, null, boolean, number, string, array, object, Items, no_items, item, Members, no_members, member}

-- what is read in place of a value; at None the member, or the item, is left out
abbrev pub Repair : Type 0
Repair = Json → Option Json

abbrev pub always : (Json → Json) → Repair
always change j = Some (change j)

-- a repair for each member of a name; other members are kept
abbrev pub Table : Type 0
Table = List (List ℕ × Repair)

abbrev pub repair_at : Table → List ℕ → Repair
repair_at [] name j = Some j
repair_at (row ∷ rows) name j = if pointwise nat_eq name row.0 then row.1 j else repair_at rows name j

abbrev pub some_member : List ℕ → Option Json → Members → Members
some_member name None ms = ms
some_member name (Some j) ms = member name j ms

abbrev pub repaired_members : Table → Members → Members
repaired_members table no_members = no_members
repaired_members table (member name j ms) = some_member name (repair_at table name j) (repaired_members table ms)

-- an object with its members repaired; what is no object is kept
abbrev pub by_table : Table → Json → Json
by_table table null = null
by_table table (boolean b) = boolean b
by_table table (number s) = number s
by_table table (string s) = string s
by_table table (array js) = array js
by_table table (object ms) = object (repaired_members table ms)

abbrev pub some_item : Option Json → Items → Items
some_item None js = js
some_item (Some j) js = item j js

abbrev pub repaired_items : Repair → Items → Items
repaired_items repair no_items = no_items
repaired_items repair (item j js) = some_item (repair j) (repaired_items repair js)
