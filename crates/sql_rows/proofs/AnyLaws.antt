-- What LIMIT 1 shows of typed rows: one of them, if there is one.
use Rattle.std.proofs.Common.{◌≡◌, List, [], ◌∷◌, map, take, true, refl, sym, ap, ◌∙◌, subst, inl}
use Rattle.sqlite_value.specs.declared.value.Value.TheVariants.{Int}
use Rattle.sqlite_value.specs.Order.{Row}
use Rattle.std.specs.Prelude.{ℕ, pos}
use Rattle.sqlite_trees.specs.Tree.{Trees}
use Rattle.sqlite_schema.specs.Rules.{Obeys}
use Rattle.sqlite_sql.specs.Term.{Term, lit}
use Rattle.sqlite_sql.specs.Query.{IsAnswer, Output, output}
use Rattle.sqlite_sql.specs.Program.{overlay}
use Rattle.sqlite_rules.specs.Lists.{Has}
use Rattle.sql_tables.specs.Tables.{hub_schema}
use Rattle.sql_tables.specs.Forms.{any_query}
use Rattle.sql_rows.specs.Kept.{IsAny}
use Rattle.sql_rows.specs.TypedTable.{TypedTable, typed, rows_in, AreTyped}
use Rattle.sql_rows.specs.TypedTables.{hub_good}
use Rattle.sql_rows.proofs.DownLaws.{none_left}
use Rattle.sql_rows.proofs.QueryLemmas.{ordered_from, ordered_has}
use Rattle.sql_rows.proofs.ReadLaws.{IsTest, IsWhole, based, read_is}
use Rattle.sql_rows.proofs.TypedTableLemmas as typed_table
use Rattle.sql_rows.proofs.TypedTableLemmas.{IsTypedTable}

module _ {T : Type 0} (at : ℕ) (s : TypedTable T) (is : IsTypedTable hub_schema hub_good at s) (project : List Term) (whole : IsWhole s project) (params : Row)
    (db : Trees) (kept : AreTyped hub_schema hub_good db) (obeys : Obeys hub_schema db) (rows : List Row) (answer : IsAnswer (any_query s.table.tree project) (overlay db []) params rows) where
  each : IsTest s [] params (λ t. true)
  each = λ id t. refl

  under : (r : Row) → Has (overlay db [] s.table.tree) r → Has (db s.table.tree) r
  under r h = subst (λ l. Has l r) (is.base db) h

  pub any_is : IsAny (rows_in s db) (map s.read rows)
  any_is = go answer.ordered refl
    where
      go : (os : List Output) → answer.ordered ≡ os → IsAny (rows_in s db) (map s.read rows)
      go [] e =
          let none : rows ≡ [] = answer.shown ∙ ap (λ (l : List Output). take 1 (map (λ o. o.1) l)) e in
          subst (λ (l : List Row). IsAny (rows_in s db) (map s.read l)) (sym none) (none_left (rows_in s db) (λ t h.
          let r = typed_table.rows_from hub_schema hub_good at s is db kept obeys t h in
          subst (λ l. Has l (output (any_query s.table.tree project) (params ∷ r.0 ∷ []))) e (ordered_has [] project [] (lit (Int (pos 1))) (overlay db []) s.table.tree params rows answer r.0 (based hub_schema hub_good at s is [] params (λ t. true) each db kept r.0 r.1) refl)))
      go (o ∷ os) e =
          let one : rows ≡ o.1 ∷ [] = answer.shown ∙ ap (λ (l : List Output). take 1 (map (λ o. o.1) l)) e in
          let r = ordered_from [] project [] (lit (Int (pos 1))) (overlay db []) s.table.tree params rows answer o (subst (λ l. Has l o) (sym e) (inl refl)) in
          let there = under r.0 r.1 in
          let same : s.read o.1 ≡ typed s r.0 = ap (λ (x : Output). s.read x.1) r.3 ∙ read_is hub_schema hub_good at s is [] params (λ t. true) each db kept project whole r.0 there in
          subst (λ (l : List Row). IsAny (rows_in s db) (map s.read l)) (sym one) (refl, subst (Has (rows_in s db)) (sym same) (typed_table.rows_have hub_schema hub_good at s is db kept obeys r.0 there))
