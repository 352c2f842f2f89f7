-- What the rows of hub_meta show, over each form that has it.
use Rattle.std.proofs.Common.{◌≡◌, ◌∙◌, ◌<◌, ℕ, ℤ, zero, suc, pos, codes, List, [], ◌∷◌, Some, false, length, slice_get, ◌==◌, Equal, Ok, Err, Result, IfOk, IsTrue, map, refl, sym, ap, subst, inl, arith, rules}
use Rattle.std.specs.List.{AllByRecursion}
use Rattle.sqlite_tied.specs.Compute.{everything}
use Rattle.sqlite_rules.specs.Action.{works}
use Rattle.sqlite_rules.specs.Lists.{Has}
use Rattle.sqlite_schema.specs.declared.schema.Index.{Index}
use Rattle.sqlite_schema.specs.declared.schema.Keys.TheVariants.{Enforced}
use Rattle.sqlite_schema.specs.declared.schema.Schema.{Schema}
use Rattle.sqlite_schema.specs.Names.{same_name, table_named}
use Rattle.sqlite_schema.specs.Rules.{Obeys}
use Rattle.sqlite_sql.specs.Query.{IsAnswer, inner, end}
use Rattle.sqlite_sql.specs.Program.{overlay}
use Rattle.sqlite_sql.specs.Term.{eval_all}
use Rattle.sqlite_value.specs.Keys.{plain}
use Rattle.sqlite_value.specs.Order.{Row}
use Rattle.sqlite_value.specs.declared.value.Value.TheVariants.{Int, Null}
use Rattle.sqlite.specs.Command.{Command}
use Rattle.sqlite.specs.Command.TheVariants.{Select}
use Rattle.sqlite.specs.declared.error.Error.{Error}
use Rattle.sqlite.specs.Effect.{Database, IsDatabase}
use Rattle.sqlite.specs.Listing.{understood, reads_listing}
use Rattle.sqlite.specs.State.{State, Shown}
use Rattle.sqlite.proofs.Callers.{IsPlain, command_of, reads_as}
use Rattle.hub_rows.specs.Keyed.{key_cmp}
use Rattle.hub_rows.proofs.ListLaws.{by_key_total}
use Rattle.sql_tables.specs.Forms.{cols, plain_query}
use Rattle.sql_tables.specs.Tables.{hub_meta, key_index, names_of}
use Rattle.sql_tables.specs.Opening.{number_of, schema_at}
use Rattle.sql_tables.specs.declared.meta.TheConstants as meta
use Rattle.sql_rows.specs.declared.meta_rows.MetaRow.{MetaRow}
use Rattle.sql_rows.specs.TypedTable.{cmp, rows_in, typed}
use Rattle.sql_rows.specs.TypedTables.{hub_good, metas}
use Rattle.sql_rows.proofs.MemberLaws.{is_arranged, sorted_single}
use Rattle.sql_rows.proofs.MetaTable.{on_metas, whole_metas}
use Rattle.sql_rows.proofs.QueryLemmas.{rows_from, rows_have}
use Rattle.sql_rows.proofs.StoreLemmas.{shown_was}
use Rattle.sql_rows.proofs.TableLemmas.{cast_int}
use Rattle.sql_rows.proofs.TypedTableLemmas as typed_table
use Rattle.sql_rows.proofs.TypedTableLemmas.{IsTypedTable}
use Rattle.store_sql.specs.Known.{IsKnown, ShowsNumber, number_row}

-- ---- what it means to list it

abbrev list_command : Command
list_command = Select (record { lets = []; body = plain_query (inner 0 end) [] (cols 1 1 2) [] }) (names_of hub_meta)

record ListsMeta (schema : Schema) : Type 0 where
  command : command_of (understood schema meta.LIST.now) ≡ list_command
  plain : IsPlain (understood schema meta.LIST.now)
  unlisted : reads_listing schema meta.LIST.now ≡ false

lists_first : ListsMeta (schema_at 1)
unfolding understood everything
lists_first = record { command = refl; plain = (refl, refl); unlisted = refl }

lists_second : ListsMeta (schema_at 2)
unfolding understood everything
lists_second = record { command = refl; plain = (refl, refl); unlisted = refl }

lists_third : ListsMeta (schema_at 3)
unfolding understood everything
lists_third = record { command = refl; plain = (refl, refl); unlisted = refl }

lists_later_third : ListsMeta (schema_at 4)
unfolding understood everything
lists_later_third = record { command = refl; plain = (refl, refl); unlisted = refl }

lists_fourth : ListsMeta (schema_at 5)
unfolding understood everything
lists_fourth = record { command = refl; plain = (refl, refl); unlisted = refl }

lists_fifth : ListsMeta (schema_at 6)
unfolding understood everything
lists_fifth = record { command = refl; plain = (refl, refl); unlisted = refl }

lists_meta : (n : ℕ) → 0 < n → ListsMeta (schema_at n)
lists_meta zero some = absurd (omega (arith, some))
lists_meta (suc zero) some = lists_first
lists_meta (suc (suc zero)) some = lists_second
lists_meta (suc (suc (suc zero))) some = lists_third
lists_meta (suc (suc (suc (suc zero)))) some = lists_later_third
lists_meta (suc (suc (suc (suc (suc zero))))) some = lists_fourth
lists_meta (suc (suc (suc (suc (suc (suc n)))))) some = lists_fifth

-- ---- it is a table of each of these forms

pub meta_named : (n : ℕ) → 0 < n → table_named (schema_at n) (codes "hub_meta") ≡ Some 0
unfolding same_name
meta_named zero some = absurd (omega (arith, some))
meta_named (suc zero) some = refl
meta_named (suc (suc zero)) some = refl
meta_named (suc (suc (suc zero))) some = refl
meta_named (suc (suc (suc (suc zero)))) some = refl
meta_named (suc (suc (suc (suc (suc zero))))) some = refl
meta_named (suc (suc (suc (suc (suc (suc n)))))) some = refl

abbrev ArePlain : Schema → Type 0
ArePlain schema = AllByRecursion (λ (i : Index). i.order ≡ plain) schema.indexes

plain_at : (n : ℕ) → ArePlain (schema_at n)
plain_at n = search rules

meta_of : (schema : Schema) → slice_get schema.tables 0 ≡ Some hub_meta → Has schema.tables hub_meta → Has schema.indexes (key_index (codes "sqlite_autoindex_hub_meta_1") 0 1) → ArePlain schema
    → ((olds news : List Row) → (length news == 0) ≡ false → works schema Enforced 0 0 olds news ≡ []) → IsTypedTable schema hub_good 0 metas
meta_of schema here listed guarded orders still = record {
  key_row = λ m. refl;
  row_key = λ m. refl;
  long = λ m. refl;
  round = λ m. refl;
  casts = λ m. rw (cast_int (pos m.number)) refl;
  good_is = refl;
  here = here;
  listed = listed;
  index = _;
  guarded = guarded;
  guards_it = refl;
  columns = refl;
  order = refl;
  orders = orders;
  base = λ db. refl;
  counted = refl;
  still = still;
}

meta_at : (n : ℕ) → 0 < n → IsTypedTable (schema_at n) hub_good 0 metas
meta_at zero some = absurd (omega (arith, some))
meta_at (suc zero) some = meta_of (schema_at 1) refl (inl refl) (inl refl) (plain_at 1) (λ olds news some. rw some refl)
meta_at (suc (suc zero)) some = meta_of (schema_at 2) refl (inl refl) (inl refl) (plain_at 2) (λ olds news some. rw some refl)
meta_at (suc (suc (suc zero))) some = meta_of (schema_at 3) refl (inl refl) (inl refl) (plain_at 3) (λ olds news some. rw some refl)
meta_at (suc (suc (suc (suc zero)))) some = meta_of (schema_at 4) refl (inl refl) (inl refl) (plain_at 4) (λ olds news some. rw some refl)
meta_at (suc (suc (suc (suc (suc zero))))) some = meta_of (schema_at 5) refl (inl refl) (inl refl) (plain_at 5) (λ olds news some. rw some refl)
meta_at (suc (suc (suc (suc (suc (suc n)))))) some = on_metas

-- ---- the rows that are listed

abbrev number_meta : ℕ → MetaRow
number_meta n = record { name = codes "schema"; number = n }

module _ (n : ℕ) (d : Database) (known : IsKnown n d) (sound : IsDatabase d) (rows : List Row) (answer : IsAnswer (plain_query (inner 0 end) [] (cols 1 1 2) []) (overlay d.trees []) [] rows) where
  is : IsTypedTable (schema_at n) hub_good 0 metas
  is = meta_at n known.tables.some

  obeys : Obeys (schema_at n) d.trees
  obeys = subst (λ s. Obeys s d.trees) known.tables.is sound.obeys

  -- a row of the table is shown as it is written
  shown_as : (r : Row) (h : Has (d.trees 0) r) → eval_all (cols 1 1 2) ([] ∷ r ∷ []) ≡ metas.row (typed metas r)
  shown_as r h =
      let u = typed_table.row_in (schema_at n) hub_good 0 metas is d.trees known.typed r h in
      ap (λ (z : Row). eval_all (cols 1 1 2) ([] ∷ z ∷ [])) u.2 ∙ whole_metas u.1 (Int u.0) [] ∙ ap metas.row (sym (typed_table.typed_is (schema_at n) hub_good 0 metas is d.trees known.typed r h))

  number_shown : Has rows (number_row (pos (number_of n)))
  number_shown =
      let t = typed_table.rows_from (schema_at n) hub_good 0 metas is d.trees known.typed obeys (number_meta (number_of n)) known.numbered in
      let based = subst (λ l. Has l t.0) (sym (is.base d.trees)) t.1 in
      subst (Has rows) (shown_as t.0 t.1 ∙ ap metas.row (sym t.2)) (rows_have [] (cols 1 1 2) [] (overlay d.trees []) 0 [] rows answer t.0 based refl)

  same_number : (m : ℤ) (r : Row) → Has (d.trees 0) r → number_row m ≡ metas.row (typed metas r) → m ≡ pos (number_of n)
  same_number m r there same =
      let one = typed metas r in
      let name : one.name ≡ codes "schema" = cc in
      let number : m ≡ pos one.number = cc in
      let tie : cmp metas one (number_meta (number_of n)) ≡ Equal = ap (λ t. key_cmp (t ∷ []) (codes "schema" ∷ [])) name in
      let all = rows_in metas d.trees in
      let twice : one ≡ number_meta (number_of n) = sorted_single (cmp metas) (by_key_total metas.key) all (is_arranged (cmp metas) (by_key_total metas.key) (map (typed metas) (d.trees 0))) one (number_meta (number_of n))
      (typed_table.rows_have (schema_at n) hub_good 0 metas is d.trees known.typed obeys r there) known.numbered tie in
      number ∙ ap (λ (w : MetaRow). pos w.number) twice

  number_alone : (m : ℤ) → Has rows (number_row m) → m ≡ pos (number_of n)
  number_alone m h =
      let r = rows_from [] (cols 1 1 2) [] (overlay d.trees []) 0 [] rows answer (number_row m) h in
      let there = subst (λ l. Has l r.0) (is.base d.trees) r.1 in
      same_number m r.0 there (r.3 ∙ shown_as r.0 there)

  shows_number : ShowsNumber (number_of n) rows
  shows_number = record { shown = number_shown; alone = number_alone }

-- what the text shows, where such a database is open
pub known_shows : (n : ℕ) {V : Type 0} (items : V → List Row) (old new : State) (r : Result V Error) → IsKnown n old.now → (IsTrue old.is_open → IsDatabase old.now) → IfOk r (λ v. Shown meta.LIST.now [] old new (items v)) → IfOk r (λ v. ShowsNumber (number_of n) (items v))
known_shows n items old new (Ok v) known sound shown =
    let lists = lists_meta n known.tables.some in
    let read = reads_as meta.LIST.now [] old new (schema_at n) known.tables.is list_command lists.command lists.plain lists.unlisted (items v) shown in
    shows_number n old.now known (sound (shown_was meta.LIST.now [] old new (items v) shown)) (items v) (read.answer Null)
known_shows n items old new (Err e) known sound shown = tt
