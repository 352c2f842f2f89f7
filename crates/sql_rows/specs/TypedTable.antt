-- Typed rows that are kept in a table, whose first columns are its key.
use Rattle.std.specs.Prelude.{◌≡◌, ℕ, ℤ, pos, List, [], ◌∷◌, map, drop}
use Rattle.std.specs.declared.cmp.Ordering.{Ordering}
use Rattle.std.specs.List.{AllByRecursion}
use Rattle.sqlite_value.specs.declared.value.Value.{Value}
use Rattle.sqlite_value.specs.declared.value.Value.TheVariants.{Int, Text}
use Rattle.sqlite_value.specs.Order.{Row}
use Rattle.sqlite_trees.specs.Tree.{Trees, IsTable}
use Rattle.sqlite_schema.specs.declared.schema.Table.{Table}
use Rattle.sqlite_schema.specs.declared.schema.Schema.{Schema}
use Rattle.hub_rows.specs.Keyed.{by_key, put_all}
use Rattle.hub_rows.specs.Reservations.{shifted, unshifted}

abbrev pub Key : Type 0
Key = List (List ℕ)

-- how a part of a key is kept: a text, a whole number from 0 on, or a signed number of 32 bits, which the key has
-- shifted into the naturals
pub data Part : Type 0 where
  text_part : Part
  count_part : Part
  signed_part : Part

-- the number that is a part of a key
abbrev pub number_of : List ℕ → ℕ
number_of [] = 0
number_of (n ∷ more) = n

abbrev pub value_for : Part → List ℕ → Value
value_for text_part p = Text p
value_for count_part p = Int (pos (number_of p))
value_for signed_part p = Int (unshifted (number_of p))

-- the columns of a key
abbrev pub values_for : List Part → Key → Row
values_for [] k = []
values_for (b ∷ bs) [] = []
values_for (b ∷ bs) (p ∷ ps) = value_for b p ∷ values_for bs ps

abbrev pub part_in : Part → Value → List ℕ
part_in text_part (Text t) = t
part_in count_part (Int (pos n)) = n ∷ []
part_in signed_part (Int n) = shifted n ∷ []
part_in _ _ = []

-- the key in its columns
abbrev pub parts_in : List Part → Row → Key
parts_in [] r = []
parts_in (b ∷ bs) [] = []
parts_in (b ∷ bs) (v ∷ r) = part_in b v ∷ parts_in bs r

pub record TypedTable (T : Type 0) : Type 0 where
  pub table : Table
  pub parts : List Part
  pub key : T → Key
  -- the columns of a row, and the row of its columns
  pub row : T → Row
  pub read : Row → T

-- the row without its rowid, read
abbrev pub typed : {T : Type 0} → TypedTable T → Row → T
typed s r = s.read (drop 1 r)

abbrev pub cmp : {T : Type 0} → TypedTable T → T → T → Ordering
cmp s = by_key s.key

-- the typed rows, in the order of their keys
abbrev pub rows_in : {T : Type 0} → TypedTable T → Trees → List T
rows_in s db = put_all (cmp s) (map (typed s) (db s.table.tree)) []

-- a row that this program writes
abbrev pub IsRowOf : {T : Type 0} → TypedTable T → Row → Type 0
IsRowOf {T} s r = (id : ℤ) × (t : T) × (r ≡ Int id ∷ s.row t)

-- what is kept of each table of the schema, where `good` says by the number of its tree what its rows are
abbrev pub AreTyped : Schema → (ℕ → Row → Type 0) → Trees → Type 0
AreTyped schema good db = AllByRecursion (λ t. IsTable (db t.tree) × AllByRecursion (good t.tree) (db t.tree)) schema.tables

-- the tables with another tree are as they were
abbrev pub Spares : Schema → ℕ → Trees → Trees → Type 0
Spares schema tree old new = AllByRecursion (λ t. (t.tree ≡ tree → ⊥) → new t.tree ≡ old t.tree) schema.tables
