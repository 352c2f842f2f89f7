-- What a SELECT of all columns shows, by the test of typed rows that its WHERE is.
use Rattle.std.proofs.Common.{◌≡◌, ℕ, ℤ, pos, List, [], ◌∷◌, map, filter, Bool, true, sym, ap, ◌∙◌, subst}
use Rattle.std.specs.List.{list_all}
use Rattle.sqlite_value.specs.declared.value.Value.{Value}
use Rattle.sqlite_value.specs.declared.value.Value.TheVariants.{Int}
use Rattle.sqlite_value.specs.declared.keys.Key as sort
use Rattle.sqlite_value.specs.Order.{Row, column}
use Rattle.sqlite_trees.specs.Tree.{Trees}
use Rattle.sqlite_sql.specs.Term.{Term, holds, eval_all}
use Rattle.sqlite_sql.specs.Query.{IsAnswer, inner, end}
use Rattle.sqlite_sql.specs.Program.{overlay}
use Rattle.sqlite_schema.specs.declared.schema.Schema.{Schema}
use Rattle.sqlite_schema.specs.Rules.{Obeys}
use Rattle.sqlite_rules.specs.Lists.{Has}
use Rattle.sqlite_rules.proofs.ListLemmas.{has_filtered, has_kept}
use Rattle.sqlite_rules.proofs.ProbeLemmas.{has_mapped, mapped_has}
use Rattle.hub_rows.specs.Keyed.{put_all}
use Rattle.hub_rows.proofs.ListLaws.{by_key_total}
use Rattle.sql_tables.specs.Forms.{plain_query}
use Rattle.sql_rows.specs.TypedTable.{TypedTable, typed, cmp, rows_in, AreTyped}
use Rattle.sql_rows.proofs.MemberLaws.{IsSingle, same_elements, is_arranged, arranged_from, arranged_has, sorted_filter}
use Rattle.sql_rows.proofs.QueryLemmas as query
use Rattle.sql_rows.proofs.TypedTableLemmas as typed_table
use Rattle.sql_rows.proofs.TypedTableLemmas.{IsTypedTable}

-- the filter of a statement is this test of typed rows
abbrev pub IsTest : {T : Type 0} → TypedTable T → List Term → Row → (T → Bool) → Type 0
IsTest {T} s filter params p = (id : ℤ) (t : T) → list_all (holds (params ∷ (Int id ∷ s.row t) ∷ [])) filter ≡ p t

-- the terms are these cells of a row
abbrev pub AreCells : {T : Type 0} → TypedTable T → List Term → (T → Row) → Type 0
AreCells {T} s project cells = (t : T) (v : Value) (params : Row) → eval_all project (params ∷ (v ∷ s.row t) ∷ []) ≡ cells t

-- the terms are the columns of the table
abbrev pub IsWhole : {T : Type 0} → TypedTable T → List Term → Type 0
IsWhole s project = AreCells s project s.row

-- the column at that place is the number of a row
abbrev pub IsNumbered : {T : Type 0} → TypedTable T → (T → ℕ) → ℕ → Type 0
IsNumbered {T} s number place = (id : ℤ) (t : T) → column (Int id ∷ s.row t) place ≡ Int (pos (number t))

module _ {T : Type 0} (schema : Schema) (good : ℕ → Row → Type 0) (at : ℕ) (s : TypedTable T) (is : IsTypedTable schema good at s) (wanted : List Term) (params : Row) (p : T → Bool) (test : IsTest s wanted params p)
    (db : Trees) (kept : AreTyped schema good db) where
  pub passes : (r : Row) → Has (db s.table.tree) r → list_all (holds (params ∷ r ∷ [])) wanted ≡ p (typed s r)
  passes r h =
      let u = typed_table.row_in schema good at s is db kept r h in
      ap (λ (x : Row). list_all (holds (params ∷ x ∷ [])) wanted) u.2 ∙ test u.0 u.1 ∙ ap p (sym (typed_table.typed_is schema good at s is db kept r h))

  -- the cells of a row of the table
  pub cells_are : (project : List Term) (cells : T → Row) → AreCells s project cells → (r : Row) → Has (db s.table.tree) r → eval_all project (params ∷ r ∷ []) ≡ cells (typed s r)
  cells_are project cells shown r h =
      let u = typed_table.row_in schema good at s is db kept r h in
      ap (λ (z : Row). eval_all project (params ∷ z ∷ [])) u.2 ∙ shown u.1 (Int u.0) params ∙ ap cells (sym (typed_table.typed_is schema good at s is db kept r h))

  -- a row of the table, as all its columns are read
  pub read_is : (project : List Term) → IsWhole s project → (r : Row) → Has (db s.table.tree) r → s.read (eval_all project (params ∷ r ∷ [])) ≡ typed s r
  read_is project whole r h = ap s.read (cells_are project s.row whole r h) ∙ is.round (typed s r)

  -- the number of a row, which stands at that place
  pub number_of : (place : ℕ) (number : T → ℕ) → IsNumbered s number place → (r : Row) → Has (db s.table.tree) r → column r place ≡ Int (pos (number (typed s r)))
  number_of place number numbered r h =
      let u = typed_table.row_in schema good at s is db kept r h in
      ap (λ (x : Row). column x place) u.2 ∙ numbered u.0 u.1 ∙ ap (λ t. Int (pos (number t))) (sym (typed_table.typed_is schema good at s is db kept r h))

  pub based : (r : Row) → Has (db s.table.tree) r → Has (overlay db [] s.table.tree) r
  based r h = subst (λ l. Has l r) (sym (is.base db)) h

  module _ (project : List Term) (whole : IsWhole s project) (order : List (Term × sort.Key)) (obeys : Obeys schema db)
      (rows : List Row) (answer : IsAnswer (plain_query (inner s.table.tree end) wanted project order) (overlay db []) params rows) where
    shows_from : (x : Row) → Has rows x → (r : Row) × Has (db s.table.tree) r × (p (typed s r) ≡ true) × (s.read x ≡ typed s r)
    shows_from x h =
        let r = query.rows_from wanted project order (overlay db []) s.table.tree params rows answer x h in
        let there = subst (λ l. Has l r.0) (is.base db) r.1 in (
          r.0,
          there,
          sym (passes r.0 there) ∙ r.2,
          ap s.read r.3 ∙ read_is project whole r.0 there,
        )

    shows_has : (r : Row) → Has (db s.table.tree) r → p (typed s r) ≡ true → Has (map s.read rows) (typed s r)
    shows_has r h good_one =
        let x = query.rows_have wanted project order (overlay db []) s.table.tree params rows answer r (based r h) (passes r h ∙ good_one) in
        subst (Has (map s.read rows)) (read_is project whole r h) (mapped_has s.read rows _ x)

    pub once : IsSingle (cmp s) (by_key_total s.key) (map s.read rows)
    once a b h l tie =
        let x = has_mapped s.read rows a h in
        let y = has_mapped s.read rows b l in
        let r = shows_from x.0 x.1 in
        let q = shows_from y.0 y.1 in
        typed_table.single schema good at s is db kept obeys a b (subst (Has (map (typed s) (db s.table.tree))) (sym (x.2 ∙ r.3)) (mapped_has (typed s) (db s.table.tree) r.0 r.1))
        (subst (Has (map (typed s) (db s.table.tree))) (sym (y.2 ∙ q.3)) (mapped_has (typed s) (db s.table.tree) q.0 q.1)) tie

    -- the rows that are shown, put in their order, are those that pass
    pub lists_those : put_all (cmp s) (map s.read rows) [] ≡ filter p (rows_in s db)
    lists_those =
        same_elements (cmp s) (by_key_total s.key) _ _ (is_arranged (cmp s) (by_key_total s.key) (map s.read rows))
        (sorted_filter (cmp s) (by_key_total s.key) p (rows_in s db) (is_arranged (cmp s) (by_key_total s.key) (map (typed s) (db s.table.tree))))
        (λ t h.
        let x = has_mapped s.read rows t (arranged_from (cmp s) (by_key_total s.key) (map s.read rows) t h) in
        let r = shows_from x.0 x.1 in
        subst (Has (filter p (rows_in s db))) (sym (x.2 ∙ r.3)) (has_kept p (rows_in s db) (typed s r.0) (typed_table.rows_have schema good at s is db kept obeys r.0 r.1) r.2))
        (λ t h.
        let f = has_filtered p (rows_in s db) t h in
        let r = typed_table.rows_from schema good at s is db kept obeys t f.0 in
        arranged_has (cmp s) (by_key_total s.key) (map s.read rows) t once (subst (Has (map s.read rows)) (sym r.2) (shows_has r.0 r.1 (subst (λ u. p u ≡ true) r.2 f.1))))
