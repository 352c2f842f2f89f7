-- An INSERT of one row into any table whose first columns are its key.
use Rattle.std.proofs.Common.{◌≡◌, ℕ, ℤ, ◌+◌, not, List, [], ◌∷◌, length, true, false, Option, None, Ok, refl, sym, ap, ◌∙◌, subst, inl, inr, true≢false, Equal}
use Rattle.std.specs.Ordering.{is_eq}
use Rattle.std.proofs.lemmas.Bool.{and_parts, not-true}
use Rattle.sqlite_value.specs.declared.value.Value.TheVariants.{Null, Int}
use Rattle.sqlite_value.specs.Order.{Row, value_cmp}
use Rattle.sqlite_trees.specs.Tree.{Trees, rowid, IsTable}
use Rattle.sqlite_schema.specs.declared.schema.Keys.TheVariants.{Enforced}
use Rattle.sqlite_schema.specs.declared.schema.Schema.{Schema}
use Rattle.sqlite_schema.specs.Rules.{Obeys}
use Rattle.sqlite_rules.specs.Lists.{Has}
use Rattle.sqlite_rules.specs.Edit.{edit_of, next_rowid, put_all, is_taken, are_fresh}
use Rattle.sqlite_rules.specs.Action.{Writes}
use Rattle.sqlite_rules.proofs.ListLemmas.{some_from}
use Rattle.sqlite_rules.proofs.TableLemmas.{has_put, put_has, put_all_keeps}
use Rattle.sqlite_rules.proofs.ActionLemmas.{no_works}
use Rattle.sqlite.specs.Rows.{Written, rowids_for, count_of}
use Rattle.sqlite.specs.Effect.{Database}
use Rattle.sqlite.specs.Does.{Tally, Does, OnRows, AtPlace}
use Rattle.sqlite.specs.State.{State, mode_of}
use Rattle.sqlite.specs.Command.{Command}
use Rattle.sqlite.proofs.Callers.{one_step}
use Rattle.sql_rows.specs.TypedTable.{TypedTable, cmp, AreTyped}
use Rattle.sql_tables.specs.Forms.{add_command}
use Rattle.sql_rows.proofs.TableLemmas.{table_put_all, cast_null}
use Rattle.sql_rows.proofs.TypedTableLemmas as typed_table
use Rattle.sql_rows.proofs.TypedTableLemmas.{IsTypedTable}
use Rattle.sql_rows.proofs.PutLemmas.{IsPutForm, Puts, went, same_value, uncounted}

module _ {T : Type 0} (schema : Schema) (good : ℕ → Row → Type 0) (at : ℕ) (s : TypedTable T) (is : IsTypedTable schema good at s) (t : T) where
  -- no row had the rowid of a new one
  untaken : (rows : List Row) (new x : Row) → are_fresh rows (new ∷ []) ≡ true → Has rows x → value_cmp (rowid x) (rowid new) ≡ Equal → ⊥
  untaken rows new x fresh k tie =
      let free : is_taken rows new ≡ false = not-true _ (and_parts (not (is_taken rows new)) true fresh).0 in
      true≢false (sym (some_from (λ r. is_eq (value_cmp (rowid r) (rowid new))) rows x k (rw tie refl)) ∙ free)

  adds : (db next : Trees) → AreTyped schema good db → (top : ℤ) → Writes schema Enforced db (edit_of db s.table [] (rowids_for s.table top) 0 ((Null ∷ s.row t) ∷ [])) (Ok next) → Puts schema s db next t
  adds db next kept top written =
      let edit = edit_of db s.table [] (rowids_for s.table top) 0 ((Null ∷ s.row t) ∷ []) in
      let applied = one_step schema Enforced db next edit (no_works schema Enforced 0 s.table.tree edit.news) written in
      let id : ℤ = next_rowid (db s.table.tree) in
      let new : Row = Int id ∷ s.row t in
      let news : edit.news ≡ new ∷ [] = rw (is.counted, cast_null, is.casts t) refl in
      let rows : next s.table.tree ≡ put_all (db s.table.tree) (new ∷ []) = applied.rows ∙ ap (put_all (db s.table.tree)) news in
      let fresh : are_fresh (db s.table.tree) (new ∷ []) ≡ true = subst (λ l. are_fresh (db s.table.tree) l ≡ true) news applied.fresh in
      let there : Has (next s.table.tree) new = subst (λ l. Has l new) (sym rows) (has_put new (db s.table.tree)) in
      let stays : (x : Row) → Has (db s.table.tree) x → Has (next s.table.tree) x = λ x k. subst (λ l. Has l x) (sym rows) (put_all_keeps (new ∷ []) (db s.table.tree) x fresh k) in
      record {
        id = id;
        there = there;
        others = λ x k. elim (put_has new (db s.table.tree) x (subst (λ l. Has l x) rows k)) [
          | inl same ↦ inl same
          | inr was ↦
              inr (
                was,
                λ tie. typed_table.apart_from schema good at s is db next kept applied.fits t id there x was (stays x was) (untaken (db s.table.tree) new x fresh was)
                    (subst (λ u. cmp s u t ≡ Equal) (typed_table.typed_is schema good at s is db kept x was) tie),
              )
        ];
        spared = λ x k other. stays x k;
        ordered = subst IsTable (sym rows) (table_put_all (new ∷ []) (db s.table.tree) (typed_table.table_in schema good at s is db kept));
        frame = applied.tables;
      }

  -- what the statement makes of a database
  module _ (m : ℕ) (form : IsPutForm s m) where
    abbrev command : Command
    command = add_command at (length s.parts + m)

    pub does_add : (limit : Option ℕ) (st : State) (db : Database) (sql : List ℕ) (tally : Tally) (after : Database) → db.schema ≡ schema → AreTyped schema good db.trees → Obeys schema db.trees
        → Does limit (mode_of st) (s.row t) db sql None command (Ok (tally, after)) → Puts schema s db.trees after.trees t × (after.schema ≡ schema)
    does_add limit st db sql tally after has kept obeys h =
        let at_schema = subst (λ k. Does limit (mode_of st) (s.row t) (record db { schema = k }) sql None command (Ok (tally, after))) has h in
        let on_table : OnRows (record { limit = limit; keys = Enforced; schema = schema; table = s.table; params = s.row t }) (mode_of st) None command db.trees (Ok (tally, after)) =
        subst (λ o. AtPlace (λ table. OnRows (record { limit = limit; keys = Enforced; schema = schema; table = table; params = s.row t }) (mode_of st) None command db.trees) o (Ok (tally, after))) is.here at_schema in
        let done = went on_table in
        let now = ap (λ (p : Tally × Database). p.1) (same_value (went (went done.2).2).2) in
        let from = went done.1 in
        let counter = went from.2 in
        let edited = went counter.2 in
        let counts = went edited.2 in
        let same : counts.0 ≡ edited.0 = same_value (uncounted _ _ s.table.is_counted _ is.counted counts.1) in
        let trees : done.0.trees ≡ edited.0 = ap (λ (it : Written). it.trees) (same_value counts.2) ∙ same in
        let puts = adds db.trees edited.0 kept (count_of counter.0) (subst (λ rows. Writes schema Enforced db.trees (edit_of db.trees s.table [] (rowids_for s.table (count_of counter.0)) 0 rows) (Ok edited.0)) (from.1.1 ∙ form.source t) edited.1) in
        (subst (λ d. Puts schema s db.trees d t) (sym (ap (λ (d : Database). d.trees) now ∙ trees)) puts, ap (λ (d : Database). d.schema) now)
