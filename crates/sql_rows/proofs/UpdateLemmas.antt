-- An UPDATE of the row with a key, in any table whose first columns are its key.
use Rattle.std.proofs.Common.{◌≡◌, ◌==◌, ℕ, ℤ, zero, suc, ◌&&◌, List, [], ◌∷◌, ◌++◌, take, drop, map, length, unwrap_or, true, Option, None, Ok, refl, sym, ap, ◌∙◌, subst, inl, inr, true≢false, eqb-true, eq-eqb, Equal}
use Rattle.std.specs.List.{AllByRecursion, list_all}
use Rattle.std.proofs.lemmas.Bool.{cases_Bool}
use Rattle.sqlite_value.specs.declared.value.Value.TheVariants.{Null, Int}
use Rattle.sqlite_value.specs.declared.keys.Collation.TheVariants.{Binary}
use Rattle.sqlite_value.specs.Order.{Row, column}
use Rattle.sqlite_value.specs.Keys.{plain, first_key}
use Rattle.sqlite_trees.specs.Tree.{Trees, IsTable}
use Rattle.sqlite_sql.specs.Term.{holds, eval_all}
use Rattle.sqlite_sql.specs.Query.{IsAnswer}
use Rattle.sqlite_sql.specs.Program.{overlay}
use Rattle.sqlite_schema.specs.declared.schema.Keys.TheVariants.{Enforced}
use Rattle.sqlite_schema.specs.declared.schema.Schema.{Schema}
use Rattle.sqlite_schema.specs.Rules.{Obeys, agree, equal}
use Rattle.sqlite_rules.specs.declared.error.Rowids.TheVariants.{Given}
use Rattle.sqlite_rules.specs.Lists.{Has}
use Rattle.sqlite_rules.specs.Cast.{cast_row}
use Rattle.sqlite_rules.specs.Edit.{edit_of}
use Rattle.sqlite_rules.specs.Calls.{ids_of}
use Rattle.sqlite_rules.specs.Action as action
use Rattle.sqlite_rules.proofs.ListLemmas.{all_has, all_from}
use Rattle.sqlite_rules.proofs.PlaceLemmas.{given}
use Rattle.sqlite_rules.proofs.ActionLemmas.{no_works}
use Rattle.sqlite.specs.Rows.{Written}
use Rattle.sqlite.specs.Effect.{Database}
use Rattle.sqlite.specs.Does.{Tally, Does, OnRows, AtPlace}
use Rattle.sqlite.specs.State.{State, mode_of}
use Rattle.sqlite.proofs.Callers.{one_step}
use Rattle.hub_rows.specs.Keyed.{key_cmp}
use Rattle.hub_rows.proofs.ListLaws.{same_key}
use Rattle.sql_tables.specs.Tables.{places}
use Rattle.sql_tables.specs.Forms.{where_is, update_project, update_query, update_command}
use Rattle.sql_rows.specs.TypedTable.{TypedTable, cmp, AreTyped, IsRowOf}
use Rattle.sql_rows.proofs.QueryLemmas as query
use Rattle.sql_rows.proofs.TypedTableLemmas as typed_table
use Rattle.sql_rows.proofs.TypedTableLemmas.{IsTypedTable, agree_keys}
use Rattle.sql_rows.proofs.PutLemmas.{Puts, joined_is, went, same_value, writes_over}

-- of a table that is written out it is `refl`
abbrev pub IsUpdateForm : {T : Type 0} → TypedTable T → ℕ → Type 0
IsUpdateForm {T} s m = (t u : T) (j : ℤ)
    → eval_all (update_project (length s.parts) m) (s.row t ∷ (Int j ∷ s.row u) ∷ []) ≡ Int j ∷ Int j ∷ (take (length s.parts) (s.row u) ++ drop (length s.parts) (s.row t))

-- the row is put where rows were changed, and else each table is as it was
abbrev pub Updates : {T : Type 0} → Schema → TypedTable T → ℕ → Trees → Trees → T → Type 0
Updates {T} schema s zero old new t = AllByRecursion (λ u. new u.tree ≡ old u.tree) schema.tables
Updates {T} schema s (suc n) old new t = Puts schema s old new t

where_agrees : (n at from : ℕ) (params r : Row) → list_all (holds (params ∷ r ∷ [])) (where_is from (places at n)) ≡ agree plain (places at n) r (places from n) params
unfolding first_key
where_agrees zero at from params r = refl
where_agrees (suc n) at from params r = ap (λ b. equal Binary (column r at) (column params from) && b) (where_agrees n (suc at) (suc from) params r)

module _ {T : Type 0} (schema : Schema) (good : ℕ → Row → Type 0) (at : ℕ) (s : TypedTable T) (is : IsTypedTable schema good at s) where
  abbrev tree : ℕ
  tree = s.table.tree

  abbrev width : ℕ
  width = length s.parts

  abbrev SameKey : T → T → Type 0
  SameKey t u = cmp s t u ≡ Equal

  pub same_typed : (old new : Trees) → AreTyped schema good old → AllByRecursion (λ u. new u.tree ≡ old u.tree) schema.tables → AreTyped schema good new
  same_typed old new kept same = all_from _ schema.tables (λ u listed.
      subst (λ (rows : List Row). IsTable rows × AllByRecursion (good u.tree) rows) (sym (all_has _ schema.tables u same listed)) (all_has _ schema.tables u kept listed))

  module _ (db : Trees) (kept : AreTyped schema good db) (obeys : Obeys schema db) (t : T) (m : ℕ) (form : IsUpdateForm s m) where
    abbrev row_in : (x : Row) → Has (db tree) x → IsRowOf s x
    row_in = typed_table.row_in schema good at s is db kept

    -- a row that passes has the key
    key_from : (r : Row) (there : Has (db tree) r) → list_all (holds (s.row t ∷ r ∷ [])) (where_is 0 (places 1 width)) ≡ true → SameKey (row_in r there).1 t
    key_from r there passes =
        let u = row_in r there in
        let agreed : agree plain (places 1 width) (Int u.0 ∷ s.row u.1) (places 0 width) (s.row t) ≡ true = subst (λ (x : Row). agree plain (places 1 width) x (places 0 width) (s.row t) ≡ true) u.2 (sym (where_agrees width 1 0 (s.row t) r) ∙ passes) in
        typed_table.values_same schema good at s is u.1 t
        (is.key_row u.1 ∙ agree_keys s.parts 1 0 (Int u.0 ∷ s.row u.1) (s.row t) (s.key u.1) (s.key t) (is.long u.1) (is.long t) (is.key_row u.1) (is.key_row t) agreed ∙ sym (is.key_row t))

    module _ (rows : List Row) (answer : IsAnswer (update_query tree width m) (overlay db []) (s.row t) rows) where
      -- a row of the query, by the row of the table that it is of
      found : (x : Row) → Has rows x → (r : Row) × (there : Has (db tree) r) × SameKey (row_in r there).1 t × (x ≡ Int (row_in r there).0 ∷ Int (row_in r there).0 ∷ s.row t)
      found x h =
          let y = query.rows_from (where_is 0 (places 1 width)) (update_project width m) [] (overlay db []) tree (s.row t) rows answer x h in
          let there : Has (db tree) y.0 = subst (λ l. Has l y.0) (is.base db) y.1 in
          let u = row_in y.0 there in
          let tie = key_from y.0 there y.2 in (
            y.0,
            there,
            tie,
            y.3 ∙ ap (λ (z : Row). eval_all (update_project width m) (s.row t ∷ z ∷ [])) u.2 ∙ form t u.1 u.0 ∙ ap (λ (l : Row). Int u.0 ∷ Int u.0 ∷ l) (joined_is schema good at s is db kept obeys t y.0 there tie),
          )

    -- two rows with the key are one
    one_id : (r x : Row) (there : Has (db tree) r) (also : Has (db tree) x) → SameKey (row_in r there).1 t → SameKey (row_in x also).1 t → (row_in x also).0 ≡ (row_in r there).0
    one_id r x there also tie same =
        let is_one : x ≡ r = typed_table.one_row schema good at s is db kept obeys x r also there (subst (λ k. key_cmp (s.key (row_in x also).1) k ≡ Equal) (sym (same_key _ _ tie)) same) in
        let ids : ◌≡◌ {A = Row} (Int (row_in x also).0 ∷ s.row (row_in x also).1) (Int (row_in r there).0 ∷ s.row (row_in r there).1) = sym (row_in x also).2 ∙ is_one ∙ (row_in r there).2 in cc

    updates_means : (rows : List Row) → IsAnswer (update_query tree width m) (overlay db []) (s.row t) rows → (next : Trees) → action.Writes schema Enforced db (edit_of db s.table (ids_of rows) Given 1 rows) (Ok next)
        → Updates schema s (length (map (λ z. cast_row s.table (drop 1 z)) rows)) db next t
    updates_means [] answer next written =
        let edit = edit_of db s.table [] Given 1 [] in
        let applied = one_step schema Enforced db next edit (no_works schema Enforced 0 tree []) written in
        all_from _ schema.tables (λ u listed. elim (cases_Bool (u.tree == tree)) [
          | inl e ↦ subst (λ n. next n ≡ db n) (sym (eqb-true _ _ e)) applied.rows
          | inr e ↦ all_has _ schema.tables u applied.tables listed (λ k. true≢false (sym (eq-eqb _ _ k) ∙ e))
        ])
    updates_means (x ∷ more) answer next written =
        let r = found (x ∷ more) answer x (inl refl) in
        let id = (row_in r.0 r.1).0 in
        let told : (y : Row) → Has (x ∷ more) y → y ≡ Int id ∷ Int id ∷ s.row t = λ y h.
        let z = found (x ∷ more) answer y h in
        z.3 ∙ ap (λ (n : ℤ). Int n ∷ Int n ∷ s.row t) (one_id r.0 z.0 r.1 z.1 r.2 z.2) in
        writes_over schema good at s is db kept obeys t r.0 r.1 r.2 (x ∷ more) told (subst (Has (x ∷ more)) r.3 (inl refl)) next written

  -- what the statement makes of a database
  module _ (m : ℕ) (form : IsUpdateForm s m) (t : T) where
    pub does_update : (limit : Option ℕ) (st : State) (db : Database) (sql : List ℕ) (tally : Tally) (after : Database) → db.schema ≡ schema → AreTyped schema good db.trees → Obeys schema db.trees
        → Does limit (mode_of st) (s.row t) db sql None (update_command at tree width m) (Ok (tally, after)) → Updates schema s (unwrap_or tally.rows 0) db.trees after.trees t × (after.schema ≡ schema)
    does_update limit st db sql tally after has kept obeys h =
        let command = update_command at tree width m in
        let at_schema = subst (λ x. Does limit (mode_of st) (s.row t) (record db { schema = x }) sql None command (Ok (tally, after))) has h in
        let on_table : OnRows (record { limit = limit; keys = Enforced; schema = schema; table = s.table; params = s.row t }) (mode_of st) None command db.trees (Ok (tally, after)) =
        subst (λ o. AtPlace (λ table. OnRows (record { limit = limit; keys = Enforced; schema = schema; table = table; params = s.row t }) (mode_of st) None command db.trees) o (Ok (tally, after))) is.here at_schema in
        let done = went on_table in
        let told = same_value (went (went done.2).2).2 in
        let read = went done.1 in
        let wrote = went read.2 in
        let written = same_value wrote.2 in
        let all : after.trees ≡ wrote.0 = ap (λ (p : Tally × Database). p.1.trees) told ∙ ap (λ (w : Written). w.trees) written in
        let count : unwrap_or tally.rows 0 ≡ length (map (λ z. cast_row s.table (drop 1 z)) read.0) =
        ap (λ (p : Tally × Database). unwrap_or p.0.rows 0) told ∙ ap (λ (w : Written). length w.rows) written ∙ ap length (given _ _) in
        let it = updates_means db.trees kept obeys t m form read.0 (read.1.answer Null) wrote.0 wrote.1 in
        (subst (λ n. Updates schema s n db.trees after.trees t) (sym count) (subst (λ d. Updates schema s (length (map (λ z. cast_row s.table (drop 1 z)) read.0)) db.trees d t) (sym all) it), ap (λ (p : Tally × Database). p.1.schema) told)
