-- The forms of the statements. The parameters are slot 0 of a query, and its table is slot 1, whose column 0 is the rowid.
use Rattle.std.specs.Prelude.{ℕ, zero, suc, ◌+◌, ◌*◌, false, true, pos, negsuc, List, [], ◌∷◌, ◌++◌, Some, None}
use Rattle.sqlite_value.specs.declared.value.Value.TheVariants.{Null, Int}
use Rattle.sqlite_value.specs.declared.keys.Collation.TheVariants.{Binary}
use Rattle.sqlite_value.specs.declared.keys.Key.{Key}
use Rattle.sqlite_sql.specs.declared.ops.BinaryOp.TheVariants.{Compare}
use Rattle.sqlite_sql.specs.declared.ops.CompareOp.TheVariants.{Eq, Ge, Gt, Le}
use Rattle.sqlite_sql.specs.Term.{Term, lit, col, op2}
use Rattle.sqlite_sql.specs.Query.{Query, Join, inner, end}
use Rattle.sqlite.specs.Command.{Command}
use Rattle.sqlite.specs.Command.TheVariants.{Insert, InsertOr, Update, Delete}
use Rattle.sqlite.specs.Source.TheVariants.{Values}
use Rattle.sqlite_schema.specs.declared.command.Conflict.TheVariants.{Abort}
use Rattle.sqlite_schema.specs.declared.command.Upsert.{Upsert}
use Rattle.sql_tables.specs.Tables.{places}

-- ---- SELECT

abbrev pub plain_query : Join → List Term → List Term → List (Term × Key) → Query
plain_query from filter project order = record {
  from = from;
  filter = filter;
  group = None;
  project = project;
  distinct = false;
  collations = [];
  order = order;
  limit = lit (Int (negsuc 0));
  offset = lit (Int (pos 0));
}

-- so many columns of a slot from that one on
abbrev pub cols : ℕ → ℕ → ℕ → List Term
cols slot from zero = []
cols slot from (suc n) = col slot from ∷ cols slot (suc from) n

-- these columns equal the parameters from that one on
abbrev pub where_is : ℕ → List ℕ → List Term
where_is from [] = []
where_is from (at ∷ columns) = op2 (Compare Eq Binary) (col 1 at) (col 0 from) ∷ where_is (suc from) columns

-- this column lies between that parameter and the next
abbrev pub range_is : ℕ → ℕ → List Term
range_is from at = op2 (Compare Ge Binary) (col 1 at) (col 0 from) ∷ op2 (Compare Le Binary) (col 1 at) (col 0 (suc from)) ∷ []

-- this column is that parameter, or above it
abbrev pub from_is : ℕ → ℕ → List Term
from_is from at = op2 (Compare Ge Binary) (col 1 at) (col 0 from) ∷ []

-- this column is above that parameter
abbrev pub above_is : ℕ → ℕ → List Term
above_is from at = op2 (Compare Gt Binary) (col 1 at) (col 0 from) ∷ []

abbrev pub by_column : ℕ → Term × Key
by_column at = (col 1 at, record { collation = Binary; descending = false })

-- the first row in the descending order of this column
abbrev pub last_query : ℕ → List Term → List Term → ℕ → Query
last_query tree filter project at = record (plain_query (inner tree end) filter project ((col 1 at, record { collation = Binary; descending = true }) ∷ [])) { limit = lit (Int (pos 1)) }

-- the first rows in the ascending order of this column, at most so many
abbrev pub page_query : ℕ → List Term → List Term → ℕ → ℕ → Query
page_query tree filter project at most = record (plain_query (inner tree end) filter project (by_column at ∷ [])) { limit = lit (Int (pos most)) }

-- one row
abbrev pub any_query : ℕ → List Term → Query
any_query tree project = record (plain_query (inner tree end) [] project []) { limit = lit (Int (pos 1)) }

-- ---- INSERT of a row of w columns, into the table at that place of the schema

abbrev pub put_terms : ℕ → List Term
put_terms w = lit Null ∷ cols 0 0 w

abbrev pub add_command : ℕ → ℕ → Command
add_command at w = Insert at (Values (put_terms w) (w + 1))

-- ---- INSERT .. ON CONFLICT (the n columns of the key) DO UPDATE SET each of the m other columns

abbrev pub put_filter : ℕ → List Term
put_filter w = op2 (Compare Eq Binary) (col 1 0) (col 0 w) ∷ []

abbrev pub put_project : ℕ → ℕ → List Term
put_project n m = col 1 0 ∷ col 1 0 ∷ cols 1 1 n ++ cols 0 (2 * n + m + 2) m

abbrev pub put_query : ℕ → ℕ → ℕ → Query
put_query tree n m = plain_query (inner tree end) (put_filter (n + m)) (put_project n m) []

abbrev pub put_clause : ℕ → ℕ → ℕ → Upsert
put_clause tree n m = record { target = Some (places 1 n); update = Some (record { lets = []; body = put_query tree n m }) }

-- into the table at that place of the schema, whose tree has that number
abbrev pub put_command : ℕ → ℕ → ℕ → ℕ → Command
put_command at tree n m = InsertOr at Abort (Values (put_terms (n + m)) (n + m + 1)) (put_clause tree n m ∷ [])

-- ---- UPDATE .. SET each of the m other columns .. WHERE the n columns of the key are the first parameters

abbrev pub update_project : ℕ → ℕ → List Term
update_project n m = col 1 0 ∷ col 1 0 ∷ cols 1 1 n ++ cols 0 n m

abbrev pub update_query : ℕ → ℕ → ℕ → Query
update_query tree n m = plain_query (inner tree end) (where_is 0 (places 1 n)) (update_project n m) []

abbrev pub update_command : ℕ → ℕ → ℕ → ℕ → Command
update_command at tree n m = Update at (record { lets = []; body = update_query tree n m })

-- ---- DELETE .. WHERE

abbrev pub drop_query : ℕ → List Term → Query
drop_query tree filter = plain_query (inner tree end) filter (col 1 0 ∷ []) []

abbrev pub drop_command : ℕ → ℕ → List Term → Command
drop_command at tree filter = Delete at (record { lets = []; body = drop_query tree filter })
