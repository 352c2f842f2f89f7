-- An upsert into any table whose first columns are its key.
use Rattle.std.proofs.Common.{◌≡◌, ◌⊎◌, ℕ, ℤ, zero, suc, ◌+◌, ◌/◌, ◌&&◌, not, List, [], ◌∷◌, ◌++◌, take, drop, map, length, Bool, true, false, Option, Some, None, Ok, Err, Result, arith, refl, sym, ap, ◌∙◌, subst, inl, inr, true≢false, eqb-true, eq-eqb, MatchBool, if◌then◌else◌}
use Rattle.std.specs.List.{AllByRecursion, list_any, list_all}
use Rattle.std.specs.Prelude.{◌==◌}
use Rattle.std.specs.Str.{bytes_eq}
use Rattle.std.proofs.lemmas.List.{take-append-drop}
use Rattle.std.proofs.lemmas.Bool.{and_parts, and_from, cases_Bool, false_from_ne_true}
use Rattle.std.proofs.lemmas.Slice.Eq.{bytes_eq-Decides}
use Rattle.sqlite_value.specs.declared.value.Value.{Value}
use Rattle.sqlite_value.specs.declared.value.Value.TheVariants.{Null, Int}
use Rattle.sqlite_value.specs.declared.keys.Collation.TheVariants.{Binary}
use Rattle.sqlite_value.specs.Order.{Row, column}
use Rattle.sqlite_value.specs.Keys.{plain}
use Rattle.sqlite_trees.specs.Tree.{Trees, rowid, has_rowid, IsTable}
use Rattle.sqlite_sql.specs.Term.{holds, eval_all}
use Rattle.sqlite_sql.specs.Query.{IsAnswer}
use Rattle.sqlite_sql.specs.Program.{overlay}
use Rattle.sqlite_schema.specs.declared.schema.Keys.TheVariants.{Enforced}
use Rattle.sqlite_schema.specs.declared.schema.Schema.{Schema}
use Rattle.sqlite_schema.specs.declared.schema.Table.{Table}
use Rattle.sqlite_schema.specs.declared.command.Conflict.TheVariants.{Abort}
use Rattle.sqlite_schema.specs.Rules.{Obeys, agree, equal, guards}
use Rattle.sqlite_rules.specs.declared.error.Rowids.TheVariants.{Given}
use Rattle.sqlite_rules.specs.Lists.{Has}
use Rattle.sqlite_rules.specs.Cast.{cast_row}
use Rattle.sqlite_rules.specs.Keys.{AreConflicts, conflicts, aims, shares}
use Rattle.sqlite_rules.specs.Edit.{Edit, edit_of, id_in, left_by, put_all, with_rowid, next_rowid, taken_by, are_fresh, Applies}
use Rattle.sqlite_rules.specs.Action.{Writes}
use Rattle.sqlite_rules.specs.Calls.{ids_of}
use Rattle.sqlite_rules.proofs.ListLemmas.{all_has, some_has, some_from}
use Rattle.sqlite_rules.proofs.TableLemmas.{has_put, put_has, put_all_has, put_all_keeps, put_all_adds}
use Rattle.sqlite_rules.proofs.PlaceLemmas.{given, tied_same}
use Rattle.sqlite_rules.proofs.ProbeLemmas.{has_mapped, mapped_has}
use Rattle.sqlite_rules.proofs.ActionLemmas.{no_works}
use Rattle.sqlite.specs.Rows.{Task, Written, Tries, TriesEach, Upserts, Meets, Clears, Puts as PutsRow, nothing, shown, stamped, rowids_for, count_of}
use Rattle.sqlite.specs.Effect.{Database, value_rows}
use Rattle.sqlite.specs.Does.{Tally, Does, OnRows, AtPlace}
use Rattle.sqlite.specs.State.{State, mode_of}
use Rattle.sqlite.specs.Command.{Command}
use Rattle.sqlite.proofs.Callers.{one_step}
use Rattle.sql_rows.specs.TypedTable.{TypedTable, typed, cmp, rows_in, IsRowOf, AreTyped, Spares}
use Rattle.sql_rows.proofs.MemberLaws.{same_elements, is_arranged, has_new, put_from, put_spares}
use Rattle.hub_rows.specs.Keyed.{put, key_cmp}
use Rattle.hub_rows.proofs.ListLaws.{by_key_total, same_key, sorted-put}
use Rattle.sql_rows.proofs.QueryLemmas as query
use Rattle.sql_tables.specs.Tables.{places}
use Rattle.sql_tables.specs.Forms.{put_terms, put_filter, put_project, put_query, put_clause, put_command}
use Rattle.sql_rows.proofs.TableLemmas.{table_put_all, table_without, left_from, left_has, cast_null, cast_int, has_its_id, tied_by}
use Rattle.sql_rows.proofs.TypedTableLemmas as typed_table
use Rattle.sql_rows.proofs.TypedTableLemmas.{IsTypedTable, keys_agree, agree_keys, tied_from, tied_to}

-- a part that gave a value did not stop on the way
pub went : {B E R : Type 0} {b : B} {Stops : E → Type 0} → ((stop : E) × Stops stop × (Ok b ≡ Err stop)) ⊎ R → R
went (inl stopped) = absurd (let e = stopped.2 in cc)
went (inr on) = on

pub same_value : {B E : Type 0} {a b : B} → ◌≡◌ {A = Result B E} (Ok a) (Ok b) → a ≡ b
same_value e = cc

-- what the row of an upsert reads
abbrev pub met : {T : Type 0} → TypedTable T → T → Value → ℤ → Row
met s t v i = s.row t ++ v ∷ shown s.table (Int i ∷ s.row t)

-- of a table that is written out each is `refl`
pub record IsPutForm {T : Type 0} (s : TypedTable T) (m : ℕ) : Type 0 where
  pub source : (t : T)
      → value_rows (stamped s.table (s.row t)) (length s.parts + m + 1) (length (put_terms (length s.parts + m)) / (length s.parts + m + 1)) (put_terms (length s.parts + m)) ≡ (Null ∷ s.row t) ∷ []
  pub filter : (t : T) (v : Value) (i : ℤ) (r : Row) → list_all (holds (met s t v i ∷ r ∷ [])) (put_filter (length s.parts + m)) ≡ (equal Binary (column r 0) v && true)
  pub project : (t u : T) (v : Value) (i j : ℤ)
      → eval_all (put_project (length s.parts) m) (met s t v i ∷ (Int j ∷ s.row u) ∷ []) ≡ Int j ∷ Int j ∷ (take (length s.parts) (s.row u) ++ drop (length s.parts) (s.row t))

-- the row is there, and each other row that is there was there and has another key
pub record Puts {T : Type 0} (schema : Schema) (s : TypedTable T) (old new : Trees) (t : T) : Type 0 where
  pub id : ℤ
  pub there : Has (new s.table.tree) (Int id ∷ s.row t)
  pub others : (x : Row) → Has (new s.table.tree) x → (x ≡ Int id ∷ s.row t) ⊎ (Has (old s.table.tree) x × (cmp s (typed s x) t ≡ Rattle.std.proofs.Common.Equal → ⊥))
  pub spared : (x : Row) → Has (old s.table.tree) x → (cmp s (typed s x) t ≡ Rattle.std.proofs.Common.Equal → ⊥) → Has (new s.table.tree) x
  pub ordered : IsTable (new s.table.tree)
  pub frame : Spares schema s.table.tree old new

pub uncounted : (P Q : Type 0) (b c : Bool) → b ≡ false → MatchBool (if b then c else false) P Q → Q
uncounted P Q true c e h = absurd (true≢false e)
uncounted P Q false c e h = h

aims_not : (n : ℕ) → aims (Some (places 1 n)) (0 ∷ []) ≡ false
aims_not zero = refl
aims_not (suc n) = refl

module _ {T : Type 0} (schema : Schema) (good : ℕ → Row → Type 0) (at : ℕ) (s : TypedTable T) (is : IsTypedTable schema good at s) where
  abbrev tree : ℕ
  tree = s.table.tree

  abbrev SameKey : T → T → Type 0
  SameKey t u = cmp s t u ≡ Rattle.std.proofs.Common.Equal

  pub put_means : (old new : Trees) (t : T) → AreTyped schema good old → Obeys schema old → AreTyped schema good new → Obeys schema new → Puts schema s old new t
      → rows_in s new ≡ put (cmp s) t (rows_in s old)
  put_means old new t before sound after also h =
      let all = is_arranged (cmp s) (by_key_total s.key) (map (typed s) (old tree)) in
      same_elements (cmp s) (by_key_total s.key) (rows_in s new) (put (cmp s) t (rows_in s old)) (is_arranged (cmp s) (by_key_total s.key) (map (typed s) (new tree)))
      (sorted-put (cmp s) (by_key_total s.key) t (rows_in s old) all)
      (λ u k.
      let x = typed_table.rows_from schema good at s is new after also u k in
      elim (h.others x.0 x.1) [
        | inl same ↦ subst (Has (put (cmp s) t (rows_in s old))) (sym (x.2 ∙ ap (typed s) same ∙ is.round t)) (has_new (cmp s) (by_key_total s.key) t (rows_in s old))
        | inr was ↦ subst (Has (put (cmp s) t (rows_in s old))) (sym x.2) (put_spares (cmp s) (by_key_total s.key) t (rows_in s old) (typed s x.0) (typed_table.rows_have schema good at s is old before sound x.0 was.0) was.1)
      ])
      (λ u k. elim (put_from (cmp s) (by_key_total s.key) t (rows_in s old) u all k) [
        | inl same ↦ subst (Has (rows_in s new)) (is.round t ∙ sym same) (typed_table.rows_have schema good at s is new after also (Int h.id ∷ s.row t) h.there)
        | inr was ↦ let x = typed_table.rows_from schema good at s is old before sound u was.0 in
            subst (Has (rows_in s new)) (sym x.2) (typed_table.rows_have schema good at s is new after also x.0 (h.spared x.0 x.1 (λ tie. was.1 (subst (λ v. SameKey v t) (sym x.2) tie))))
      ])

  -- all that is kept of the tables stays
  pub put_typed : (old new : Trees) (t : T) → AreTyped schema good old → Puts schema s old new t → AreTyped schema good new
  put_typed old new t before h = Rattle.sqlite_rules.proofs.ListLemmas.all_from _ schema.tables (λ u listed.
      elim (cases_Bool (u.tree == tree)) [
        | inl e ↦
            let same : u.tree ≡ tree = eqb-true _ _ e in
            subst (λ n. IsTable (new n) × AllByRecursion (good n) (new n)) (sym same) (
              h.ordered,
              Rattle.sqlite_rules.proofs.ListLemmas.all_from _ (new tree) (λ x k. subst (λ (P : Row → Type 0). P x) (sym is.good_is) (elim (h.others x k) [
                | inl new_one ↦ (h.id, t, new_one)
                | inr was ↦ typed_table.row_in schema good at s is old before x was.0
              ])),
            )
        | inr e ↦
            let same : new u.tree ≡ old u.tree = all_has _ schema.tables u h.frame listed (λ k. true≢false (sym (eq-eqb _ _ k) ∙ e)) in
            subst (λ (rows : List Row). IsTable rows × AllByRecursion (good u.tree) rows) (sym same) (all_has _ schema.tables u before listed)
      ])

  module _ (db : Trees) (kept : AreTyped schema good db) (obeys : Obeys schema db) (t : T) where
    abbrev row_in : (x : Row) → Has (db tree) x → IsRowOf s x
    row_in = typed_table.row_in schema good at s is db kept

    same_read : (x : Row) (h : Has (db tree) x) → SameKey (typed s x) t → SameKey (row_in x h).1 t
    same_read x h tie = subst (λ u. SameKey u t) (typed_table.typed_is schema good at s is db kept x h) tie

    -- the row under the conflict's target is the row with the key
    conflict_same : (i : ℤ) (x : Row) (h : Has (db tree) x) → conflicts (Some (places 1 (length s.parts))) schema.indexes s.table (Int i ∷ s.row t) x ≡ true → SameKey (row_in x h).1 t
    conflict_same i x h meets =
        let any : list_any (shares (Some (places 1 (length s.parts))) s.table (Int i ∷ s.row t) x) schema.indexes ≡ true = rw (aims_not (length s.parts)) at meets in
        let j = some_has (shares (Some (places 1 (length s.parts))) s.table (Int i ∷ s.row t) x) schema.indexes any in
        let parts : (guards j.0 s.table && bytes_eq (places 1 (length s.parts)) j.0.columns ≡ true) × (agree j.0.order j.0.columns x j.0.columns (Int i ∷ s.row t) ≡ true) = and_parts _ _ j.2 in
        let columns : places 1 (length s.parts) ≡ j.0.columns = (bytes_eq-Decides _ _).0 (and_parts _ _ parts.0).1 in
        let order : j.0.order ≡ plain = all_has _ schema.indexes j.0 is.orders j.1 in
        let u = row_in x h in
        let agreed : agree plain (places 1 (length s.parts)) (Int u.0 ∷ s.row u.1) (places 1 (length s.parts)) (Int i ∷ s.row t) ≡ true = rw (order, sym columns, u.2) at parts.1 in
        typed_table.values_same schema good at s is u.1 t (is.key_row u.1 ∙ agree_keys s.parts 1 1 (Int u.0 ∷ s.row u.1) (Int i ∷ s.row t) (s.key u.1) (s.key t) (is.long u.1) (is.long t) (is.key_row u.1) (is.key_row t) agreed ∙ sym (is.key_row t))

    same_conflict : (i : ℤ) (x : Row) (h : Has (db tree) x) → SameKey (row_in x h).1 t → conflicts (Some (places 1 (length s.parts))) schema.indexes s.table (Int i ∷ s.row t) x ≡ true
    same_conflict i x h tie =
        let u = row_in x h in
        let agreed : agree plain (places 1 (length s.parts)) (Int u.0 ∷ s.row u.1) (places 1 (length s.parts)) (Int i ∷ s.row t) ≡ true =
        keys_agree s.parts 1 1 (Int u.0 ∷ s.row u.1) (Int i ∷ s.row t) (s.key t) (is.long t) (typed_table.same_values schema good at s is u.1 t tie ∙ is.key_row t) (is.key_row t) in
        let agreed_there : agree is.index.order is.index.columns x is.index.columns (Int i ∷ s.row t) ≡ true = rw (is.order, is.columns, u.2) agreed in
        let shared : shares (Some (places 1 (length s.parts))) s.table (Int i ∷ s.row t) x is.index ≡ true =
        and_from _ _ (and_from _ _ is.guards_it ((bytes_eq-Decides (places 1 (length s.parts)) is.index.columns).1 (sym is.columns))) agreed_there in
        rw (aims_not (length s.parts)) (some_from (shares (Some (places 1 (length s.parts))) s.table (Int i ∷ s.row t) x) schema.indexes is.index is.guarded shared)

    frame_in : (next : Trees) (edit : Edit) → edit.table ≡ s.table → Applies schema Enforced db edit next → Spares schema tree db next
    frame_in next edit same applied = subst (λ (table : Table). AllByRecursion (λ u. (u.tree ≡ table.tree → ⊥) → next u.tree ≡ db u.tree) schema.tables) same applied.tables

    abbrev task : Option ℕ → Task
    task limit = record { limit = limit; keys = Enforced; schema = schema; table = s.table; params = s.row t }

    new_row : (i : ℤ) → cast_row s.table (Int i ∷ s.row t) ≡ Int i ∷ s.row t
    new_row i = rw (cast_int i, is.casts t) refl

    -- no row has the key
    put_in : (i : ℤ) (limit : Option ℕ) (one : Written) → ((r : Row) (h : Has (db tree) r) → SameKey (row_in r h).1 t → ⊥) → PutsRow (task limit) (Int i ∷ s.row t) db (Ok one) → Puts schema s db one.trees t
    put_in i limit one free h =
        let it = went h in
        let edit = edit_of db s.table [] Given 0 ((Int i ∷ s.row t) ∷ []) in
        let applied = one_step schema Enforced db it.0 edit (no_works schema Enforced 0 tree edit.news) it.1 in
        let trees : one.trees ≡ it.0 = ap (λ (w : Written). w.trees) (same_value it.2) in
        let news : edit.news ≡ (Int i ∷ s.row t) ∷ [] = ap (λ r. r ∷ []) (new_row i) in
        let rows : one.trees tree ≡ put_all (db tree) ((Int i ∷ s.row t) ∷ []) = ap (λ (d : Trees). d tree) trees ∙ applied.rows ∙ ap (put_all (db tree)) news in
        let fresh = subst (λ l. are_fresh (db tree) l ≡ true) news applied.fresh in
        record {
          id = i;
          there = subst (λ l. Has l (Int i ∷ s.row t)) (sym rows) (has_put (Int i ∷ s.row t) (db tree));
          others = λ x k. elim (put_has (Int i ∷ s.row t) (db tree) x (subst (λ l. Has l x) rows k)) [
            | inl same ↦ inl same
            | inr was ↦ inr (was, λ tie. free x was (same_read x was tie))
          ];
          spared = λ x k other. subst (λ l. Has l x) (sym rows) (put_all_keeps ((Int i ∷ s.row t) ∷ []) (db tree) x fresh k);
          ordered = subst IsTable (sym rows) (table_put_all ((Int i ∷ s.row t) ∷ []) (db tree) (typed_table.table_in schema good at s is db kept));
          frame = subst (λ (d : Trees). Spares schema tree db d) (sym trees) (frame_in it.0 edit refl applied);
        }

    some_long : (rows : List Row) (x : Row) → Has rows x → (length (map (λ z. cast_row s.table (drop 1 z)) rows) == 0) ≡ false
    some_long [] x none = absurd none
    some_long (y ∷ rows) x some = false_from_ne_true _ (λ e. let z : suc (length (map (λ z. cast_row s.table (drop 1 z)) rows)) ≡ 0 = eqb-true _ _ e in omega (arith, z))

    -- the row that is there with the key is written anew
    module _ (r : Row) (there : Has (db tree) r) (tie : SameKey (row_in r there).1 t) where
      abbrev id : ℤ
      id = (row_in r there).0

      abbrev was : T
      was = (row_in r there).1

      id_is : rowid r ≡ Int id
      id_is = ap rowid (row_in r there).2

      -- its key, and the other columns of the new row
      pub joined_is : take (length s.parts) (s.row was) ++ drop (length s.parts) (s.row t) ≡ s.row t
      joined_is = ap (λ (l : Row). l ++ drop (length s.parts) (s.row t)) (typed_table.same_values schema good at s is was t tie) ∙ take-append-drop (length s.parts) (s.row t)

      -- by the rows of a query, which are this row
      module _ (rows : List Row) (told_from : (x : Row) → Has rows x → x ≡ Int id ∷ Int id ∷ s.row t) (told_has : Has rows (Int id ∷ Int id ∷ s.row t)) where
        gone_is : (j : ℤ) → Has (ids_of rows) j → j ≡ id
        gone_is j h = let x = has_mapped (λ (y : Row). id_in (rowid y)) rows j h in x.2 ∙ ap (λ (y : Row). id_in (rowid y)) (told_from x.0 x.1)

        gone_has : Has (ids_of rows) id
        gone_has = mapped_has (λ (y : Row). id_in (rowid y)) rows (Int id ∷ Int id ∷ s.row t) told_has

        put_over : (next : Trees) → Applies schema Enforced db (edit_of db s.table (ids_of rows) Given 1 rows) next → Puts schema s db next t
        put_over next applied =
            let edit = edit_of db s.table (ids_of rows) Given 1 rows in
            let news : edit.news ≡ map (λ x. cast_row s.table (drop 1 x)) rows = given _ _ in
            let new_from : (x : Row) → Has edit.news x → x ≡ Int id ∷ s.row t = λ x h.
            let y = has_mapped (λ (z : Row). cast_row s.table (drop 1 z)) rows x (subst (λ l. Has l x) news h) in
            y.2 ∙ ap (λ (z : Row). cast_row s.table (drop 1 z)) (told_from y.0 y.1) ∙ new_row id in
            let new_has : Has edit.news (Int id ∷ s.row t) =
            subst (λ l. Has l (Int id ∷ s.row t)) (sym news) (subst (Has (map (λ (z : Row). cast_row s.table (drop 1 z)) rows)) (new_row id) (mapped_has (λ (z : Row). cast_row s.table (drop 1 z)) rows _ told_has)) in
            let mine : (x : Row) → Has (db tree) x → SameKey (typed s x) t → x ≡ r = λ x h same.
            typed_table.one_row schema good at s is db kept obeys x r h there (subst (λ k. key_cmp (s.key (row_in x h).1) k ≡ Rattle.std.proofs.Common.Equal) (sym (same_key _ _ tie)) (same_read x h same)) in
            record {
              id = id;
              there = subst (λ l. Has l (Int id ∷ s.row t)) (sym applied.rows) (put_all_adds edit.news (left_by db edit) (Int id ∷ s.row t) applied.fresh new_has);
              others = λ x k. elim (put_all_has edit.news (left_by db edit) x (subst (λ l. Has l x) applied.rows k)) [
                | inl new ↦ inl (new_from x new)
                | inr left ↦ let old = left_from (ids_of rows) (db tree) x left in
                    inr (old.0, λ same. true≢false (sym (has_its_id r id id_is) ∙ subst (λ y. has_rowid id y ≡ false) (mine x old.0 same) (old.1 id gone_has)))
              ];
              spared = λ x k other. subst (λ l. Has l x) (sym applied.rows) (put_all_keeps edit.news (left_by db edit) x applied.fresh (left_has (ids_of rows) (db tree) x k (λ j h.
                  false_from_ne_true _ (λ hit. other (
                  let same : x ≡ r = tied_same (db tree) x r (typed_table.table_in schema good at s is db kept) k there (tied_by x r id (subst (λ n. has_rowid n x ≡ true) (gone_is j h) hit) id_is) in
                  subst (λ y. SameKey (typed s y) t) (sym same) (subst (λ u. SameKey u t) (sym (typed_table.typed_is schema good at s is db kept r there)) tie))))));
              ordered = subst IsTable (sym applied.rows) (table_put_all edit.news (left_by db edit) (table_without (ids_of rows) (db tree) (typed_table.table_in schema good at s is db kept)));
              frame = frame_in next edit refl applied;
            }

        -- what the edit by them makes, which sets off nothing
        pub writes_over : (next : Trees) → Writes schema Enforced db (edit_of db s.table (ids_of rows) Given 1 rows) (Ok next) → Puts schema s db next t
        writes_over next written =
            let edit = edit_of db s.table (ids_of rows) Given 1 rows in
            let news : edit.news ≡ map (λ z. cast_row s.table (drop 1 z)) rows = given _ _ in
            let some : (length edit.news == 0) ≡ false = subst (λ (l : List Row). (length l == 0) ≡ false) (sym news) (some_long rows _ told_has) in
            put_over next (one_step schema Enforced db next edit (is.still (taken_by db edit) edit.news some) written)

      module _ (m : ℕ) (form : IsPutForm s m) (i : ℤ) where
        abbrev read : Row
        read = met s t (rowid r) i

        told_is : eval_all (put_project (length s.parts) m) (read ∷ r ∷ []) ≡ Int id ∷ Int id ∷ s.row t
        told_is =
            subst (λ (x : Row). eval_all (put_project (length s.parts) m) (read ∷ x ∷ []) ≡ Int id ∷ Int id ∷ s.row t) (sym (row_in r there).2)
            (form.project t was (rowid r) i id ∙ ap (λ (l : Row). Int id ∷ Int id ∷ l) joined_is)

        module _ (rows : List Row) (answer : IsAnswer (put_query tree (length s.parts) m) (overlay db []) read rows) where
          told_from : (x : Row) → Has rows x → x ≡ Int id ∷ Int id ∷ s.row t
          told_from x h =
              let y = query.rows_from (put_filter (length s.parts + m)) (put_project (length s.parts) m) [] (overlay db []) tree read rows answer x h in
              let test : (equal Binary (column y.0 0) (rowid r) && true) ≡ true = sym (form.filter t (rowid r) i y.0) ∙ y.2 in
              let same : y.0 ≡ r = tied_same (db tree) y.0 r (typed_table.table_in schema good at s is db kept) (subst (λ l. Has l y.0) (is.base db) y.1) there (tied_from (column y.0 0) (rowid r) (and_parts _ _ test).0) in
              y.3 ∙ ap (λ (z : Row). eval_all (put_project (length s.parts) m) (read ∷ z ∷ [])) same ∙ told_is

          told_has : Has rows (Int id ∷ Int id ∷ s.row t)
          told_has =
              subst (Has rows) told_is (query.rows_have (put_filter (length s.parts + m)) (put_project (length s.parts) m) [] (overlay db []) tree read rows answer r (subst (λ l. Has l r) (sym (is.base db)) there)
              (form.filter t (rowid r) i r ∙ and_from _ _ (tied_to (rowid r) (rw id_is refl)) refl))

    clears_means : (i : ℤ) (limit : Option ℕ) (one : Written) (found : List Row) → ((r : Row) (h : Has (db tree) r) → SameKey (row_in r h).1 t → ⊥) → Clears (task limit) Abort (Int i ∷ s.row t) db found (Ok one) → Puts schema s db one.trees t
    clears_means i limit one [] free h = put_in i limit one free h
    clears_means i limit one (x ∷ more) free h = put_in i limit one free h

    module _ (m : ℕ) (form : IsPutForm s m) (limit : Option ℕ) (one : Written) (i : ℤ) where
      meets_means : (found : List Row) → AreConflicts (Some (places 1 (length s.parts))) schema.indexes s.table (db tree) (Int i ∷ s.row t) found
          → Meets (task limit) (Upserts (task limit) Abort (Int i ∷ s.row t) db []) (Int i ∷ s.row t) db (put_clause tree (length s.parts) m) found (Ok one) → Puts schema s db one.trees t
      meets_means [] are h = clears_means i limit one h.0 (λ r k same. are.complete r k (same_conflict i r k same)) h.2
      meets_means (x ∷ more) are h =
          let r = are.sound x (inl refl) in
          let tie = conflict_same i r.0 r.1 r.2 in
          let it = went h in
          let edited = went it.2 in
          let rows = it.0 in
          let answer : IsAnswer (put_query tree (length s.parts) m) (overlay db []) (met s t (rowid r.0) i) rows =
          subst (λ (v : Row). IsAnswer (put_query tree (length s.parts) m) (overlay db []) (met s t (rowid v) i) rows) r.3 (it.1.answer Null) in
          subst (λ d. Puts schema s db d t) (sym (ap (λ (w : Written). w.trees) (same_value edited.2)))
          (writes_over r.0 r.1 tie rows (told_from r.0 r.1 tie m form i rows answer) (told_has r.0 r.1 tie m form i rows answer) edited.0 edited.1)

      tries_means : (new : Row) → new ≡ Int i ∷ s.row t → Tries (task limit) Abort (put_clause tree (length s.parts) m ∷ []) new db (Ok one) → Puts schema s db one.trees t
      tries_means new same (inl big) = absurd (let e = big.1 in cc)
      tries_means new same (inr (None, judged, h)) =
          let it = subst (λ n. Upserts (task limit) Abort n db (put_clause tree (length s.parts) m ∷ []) (Ok one)) same h in meets_means it.0 it.1 it.2
      tries_means new same (inr (Some why, judged, h)) = absurd (let e : ◌≡◌ {A = Result Written (Option _)} (Ok one) (Err _) = h in cc)

    pub each_means : (m : ℕ) (form : IsPutForm s m) (limit : Option ℕ) (top : ℤ) (a : Written × ℤ) → TriesEach (task limit) Abort (put_clause tree (length s.parts) m ∷ []) ((Null ∷ s.row t) ∷ []) top (nothing db) (Ok a) → Puts schema s db a.0.trees t
    each_means m form limit top a h =
        let it = went h in
        let new : Row = with_rowid (rowids_for s.table top) (db tree) (cast_row s.table (Null ∷ s.row t)) in
        let same : new ≡ Int (next_rowid (db tree)) ∷ s.row t = rw (is.counted, cast_null, is.casts t) refl in
        let trees : a.0.trees ≡ it.0.trees = ap (λ (w : Written × ℤ). w.0.trees) (same_value it.2) in
        subst (λ d. Puts schema s db d t) (sym trees) (tries_means m form limit it.0 (next_rowid (db tree)) new same it.1)

  -- what the statement makes of a database
  module _ (m : ℕ) (form : IsPutForm s m) (t : T) where
    abbrev command : Command
    command = put_command at tree (length s.parts) m

    pub does_put : (limit : Option ℕ) (st : State) (db : Database) (sql : List ℕ) (tally : Tally) (after : Database) → db.schema ≡ schema → AreTyped schema good db.trees → Obeys schema db.trees
        → Does limit (mode_of st) (s.row t) db sql None command (Ok (tally, after)) → Puts schema s db.trees after.trees t × (after.schema ≡ schema)
    does_put limit st db sql tally after has kept obeys h =
        let at_schema = subst (λ k. Does limit (mode_of st) (s.row t) (record db { schema = k }) sql None command (Ok (tally, after))) has h in
        let on_table : OnRows (record { limit = limit; keys = Enforced; schema = schema; table = s.table; params = s.row t }) (mode_of st) None command db.trees (Ok (tally, after)) =
        subst (λ o. AtPlace (λ table. OnRows (record { limit = limit; keys = Enforced; schema = schema; table = table; params = s.row t }) (mode_of st) None command db.trees) o (Ok (tally, after))) is.here at_schema in
        let done = went on_table in
        let now = ap (λ (p : Tally × Database). p.1) (same_value (went (went done.2).2).2) in
        let from = went done.1 in
        let counter = went from.2 in
        let each = went counter.2 in
        let counts = went each.2 in
        let same : counts.0 ≡ each.0.0.trees = same_value (uncounted _ _ s.table.is_counted _ is.counted counts.1) in
        let trees : done.0.trees ≡ each.0.0.trees = ap (λ (it : Written). it.trees) (same_value counts.2) ∙ same in
        let puts = each_means db.trees kept obeys t m form limit (count_of counter.0) each.0 (subst (λ rows. TriesEach (task db.trees kept obeys t limit) Abort (put_clause tree (length s.parts) m ∷ []) rows (count_of counter.0) (nothing db.trees) (Ok each.0)) (from.1.1 ∙ form.source t) each.1) in
        (subst (λ d. Puts schema s db.trees d t) (sym (ap (λ (d : Database). d.trees) now ∙ trees)) puts, ap (λ (d : Database). d.schema) now)
