-- A delete of the rows that pass a test, and what it sets off.
use Rattle.std.proofs.Common.{◌≡◌, ℕ, ℤ, not, List, [], ◌∷◌, map, filter, Bool, true, false, Option, None, Ok, refl, sym, ap, ◌∙◌, subst, inl, inr, true≢false, eqb-true, eq-eqb}
use Rattle.std.specs.Prelude.{◌==◌}
use Rattle.std.specs.List.{AllByRecursion}
use Rattle.std.proofs.lemmas.Bool.{cases_Bool, false_from_ne_true, not-true}
use Rattle.sqlite_value.specs.declared.value.Value.TheVariants.{Null, Int}
use Rattle.sqlite_value.specs.Order.{Row}
use Rattle.sqlite_trees.specs.Tree.{Trees, rowid, IsTable}
use Rattle.sqlite_sql.specs.Term.{Term, col}
use Rattle.sqlite_sql.specs.Query.{IsAnswer}
use Rattle.sqlite_sql.specs.Program.{overlay}
use Rattle.sqlite_schema.specs.declared.schema.Keys.TheVariants.{Enforced}
use Rattle.sqlite_schema.specs.declared.schema.Schema.{Schema}
use Rattle.sqlite_schema.specs.Rules.{Obeys}
use Rattle.sqlite_rules.specs.declared.error.Rowids.TheVariants.{Given}
use Rattle.sqlite_rules.specs.Lists.{Has}
use Rattle.sqlite_rules.specs.Action.{works, Writes}
use Rattle.sqlite_rules.specs.Edit.{edit_of, id_in, taken_by, Applies}
use Rattle.sqlite_rules.specs.Calls.{ids_of}
use Rattle.sqlite_rules.proofs.ListLemmas.{all_has, all_from, has_filtered, has_kept}
use Rattle.sqlite_rules.proofs.PlaceLemmas.{tied_same}
use Rattle.sqlite_rules.proofs.ProbeLemmas.{has_mapped, mapped_has}
use Rattle.sqlite.specs.Rows.{Written}
use Rattle.sqlite.specs.Effect.{Database}
use Rattle.sqlite.specs.Does.{Tally, Does, OnRows, AtPlace}
use Rattle.sqlite.specs.State.{State, mode_of}
use Rattle.sqlite.proofs.Callers.{one_step}
use Rattle.sql_rows.specs.TypedTable.{TypedTable, typed, cmp, rows_in, AreTyped, Spares}
use Rattle.hub_rows.proofs.ListLaws.{by_key_total}
use Rattle.sql_rows.proofs.MemberLaws.{same_elements, is_arranged, sorted_filter}
use Rattle.sql_rows.proofs.QueryLemmas as query
use Rattle.sql_tables.specs.Forms.{drop_query, drop_command}
use Rattle.sql_rows.proofs.TableLemmas.{table_without, left_from, left_has, has_its_id, tied_by}
use Rattle.sql_rows.proofs.TypedTableLemmas as typed_table
use Rattle.sql_rows.proofs.TypedTableLemmas.{IsTypedTable}
use Rattle.sql_rows.proofs.ReadLaws.{IsTest, passes}
use Rattle.sql_rows.proofs.PutLemmas.{went, same_value}

-- the rows that pass are gone, and no other
pub record DropsIn {T : Type 0} (s : TypedTable T) (old new : Trees) (p : T → Bool) : Type 0 where
  pub left : (x : Row) → Has (new s.table.tree) x → Has (old s.table.tree) x × (p (typed s x) ≡ false)
  pub spared : (x : Row) → Has (old s.table.tree) x → p (typed s x) ≡ false → Has (new s.table.tree) x
  pub ordered : IsTable (new s.table.tree)

pub record Drops {T : Type 0} (schema : Schema) (s : TypedTable T) (old new : Trees) (p : T → Bool) : Type 0 where
  pub inside : DropsIn s old new p
  pub frame : Spares schema s.table.tree old new

module _ {T : Type 0} (schema : Schema) (good : ℕ → Row → Type 0) (at : ℕ) (s : TypedTable T) (is : IsTypedTable schema good at s) where
  abbrev tree : ℕ
  tree = s.table.tree

  pub drop_means : (old new : Trees) (p : T → Bool) → AreTyped schema good old → Obeys schema old → AreTyped schema good new → Obeys schema new → DropsIn s old new p
      → rows_in s new ≡ filter (λ t. not (p t)) (rows_in s old)
  drop_means old new p before sound after also h =
      let keeps = λ (t : T). not (p t) in
      let all = is_arranged (cmp s) (by_key_total s.key) (map (typed s) (old tree)) in
      same_elements (cmp s) (by_key_total s.key) (rows_in s new) (filter (λ t. not (p t)) (rows_in s old)) (is_arranged (cmp s) (by_key_total s.key) (map (typed s) (new tree))) (sorted_filter (cmp s) (by_key_total s.key) keeps (rows_in s old) all)
      (λ u l.
      let x = typed_table.rows_from schema good at s is new after also u l in
      let was = h.left x.0 x.1 in
      subst (Has (filter (λ t. not (p t)) (rows_in s old))) (sym x.2) (has_kept keeps (rows_in s old) (typed s x.0) (typed_table.rows_have schema good at s is old before sound x.0 was.0) (ap not was.1)))
      (λ u l.
      let f = has_filtered keeps (rows_in s old) u l in
      let x = typed_table.rows_from schema good at s is old before sound u f.0 in
      subst (Has (rows_in s new)) (sym x.2) (typed_table.rows_have schema good at s is new after also x.0 (h.spared x.0 x.1 (subst (λ t. p t ≡ false) x.2 (not-true _ f.1)))))

  pub drop_typed : (old new : Trees) (p : T → Bool) → AreTyped schema good old → Drops schema s old new p → AreTyped schema good new
  drop_typed old new p before h = all_from _ schema.tables (λ u listed.
      elim (cases_Bool (u.tree == tree)) [
        | inl e ↦
            let same : u.tree ≡ tree = eqb-true _ _ e in
            subst (λ n. IsTable (new n) × AllByRecursion (good n) (new n)) (sym same)
            (h.inside.ordered, all_from _ (new tree) (λ x l. all_has _ (old tree) x (all_has _ schema.tables s.table before is.listed).1 (h.inside.left x l).0))
        | inr e ↦
            let same : new u.tree ≡ old u.tree = all_has _ schema.tables u h.frame listed (λ l. true≢false (sym (eq-eqb _ _ l) ∙ e)) in
            subst (λ (rows : List Row). IsTable rows × AllByRecursion (good u.tree) rows) (sym same) (all_has _ schema.tables u before listed)
      ])

  module _ (wanted : List Term) (params : Row) (p : T → Bool) (test : IsTest s wanted params p) where
    id_of : (db : Trees) (kept : AreTyped schema good db) (x : Row) → Has (db tree) x → rowid x ≡ Int (id_in (rowid x))
    id_of db kept x h = let u = typed_table.row_in schema good at s is db kept x h in rw u.2 refl

    -- the rowids are those of rows that pass
    pub gone_from : (db : Trees) (kept : AreTyped schema good db) (rows : List Row) → IsAnswer (drop_query tree wanted) (overlay db []) params rows → (j : ℤ) → Has (ids_of rows) j
        → (r : Row) × Has (db tree) r × (p (typed s r) ≡ true) × (rowid r ≡ Int j)
    gone_from db kept rows answer j gone =
        let y = has_mapped (λ (z : Row). id_in (rowid z)) rows j gone in
        let r = query.rows_from wanted (col 1 0 ∷ []) [] (overlay db []) tree params rows answer y.0 y.1 in
        let there = subst (λ l. Has l r.0) (is.base db) r.1 in
        let j_is : j ≡ id_in (rowid r.0) = y.2 ∙ ap (λ (z : Row). id_in (rowid z)) r.3 in
        (r.0, there, sym (passes schema good at s is wanted params p test db kept r.0 there) ∙ r.2, id_of db kept r.0 there ∙ ap Int (sym j_is))

    pub drops_means : (db : Trees) (kept : AreTyped schema good db) (rows : List Row) (next : Trees) → IsAnswer (drop_query tree wanted) (overlay db []) params rows
        → Applies schema Enforced db (edit_of db s.table (ids_of rows) Given 0 []) next → Drops schema s db next p
    drops_means db kept rows next answer applied =
        record {
          inside = record {
            left = λ x h.
                let old = left_from (ids_of rows) (db tree) x (subst (λ l. Has l x) applied.rows h) in (
                  old.0,
                  false_from_ne_true _ (λ holds_it.
                      let told = query.rows_have wanted (col 1 0 ∷ []) [] (overlay db []) tree params rows answer x (subst (λ l. Has l x) (sym (is.base db)) old.0) (passes schema good at s is wanted params p test db kept x old.0 ∙ holds_it) in
                      let gone : Has (ids_of rows) (id_in (rowid x)) = mapped_has (λ (y : Row). id_in (rowid y)) rows (rowid x ∷ []) told in
                      true≢false (sym (has_its_id x (id_in (rowid x)) (id_of db kept x old.0)) ∙ old.1 (id_in (rowid x)) gone)),
                );
            spared = λ x h apart. subst (λ l. Has l x) (sym applied.rows) (left_has (ids_of rows) (db tree) x h (λ j gone. false_from_ne_true _ (λ hit.
                let r = gone_from db kept rows answer j gone in
                let same : x ≡ r.0 = tied_same (db tree) x r.0 (typed_table.table_in schema good at s is db kept) h r.1 (tied_by x r.0 j hit r.3) in
                true≢false (sym r.2 ∙ subst (λ z. p (typed s z) ≡ false) same apart))));
            ordered = subst IsTable (sym applied.rows) (table_without (ids_of rows) (db tree) (typed_table.table_in schema good at s is db kept));
          };
          frame = applied.tables;
        }

    -- what the statement makes of a database: its edit, and what that sets off
    pub deletes : (limit : Option ℕ) (st : State) (db : Database) (sql : List ℕ) (tally : Tally) (after : Database) → db.schema ≡ schema
        → Does limit (mode_of st) params db sql None (drop_command at tree wanted) (Ok (tally, after))
        → (rows : List Row) × IsAnswer (drop_query tree wanted) (overlay db.trees []) params rows × Writes schema Enforced db.trees (edit_of db.trees s.table (ids_of rows) Given 0 []) (Ok after.trees) × (after.schema ≡ schema)
    deletes limit st db sql tally after has h =
        let command = drop_command at tree wanted in
        let at_schema = subst (λ x. Does limit (mode_of st) params (record db { schema = x }) sql None command (Ok (tally, after))) has h in
        let on_table : OnRows (record { limit = limit; keys = Enforced; schema = schema; table = s.table; params = params }) (mode_of st) None command db.trees (Ok (tally, after)) =
        subst (λ o. AtPlace (λ table. OnRows (record { limit = limit; keys = Enforced; schema = schema; table = table; params = params }) (mode_of st) None command db.trees) o (Ok (tally, after))) is.here at_schema in
        let done = went on_table in
        let now = ap (λ (p : Tally × Database). p.1) (same_value (went (went done.2).2).2) in
        let read = went done.1 in
        let wrote = went read.2 in
        let edit = edit_of db.trees s.table (ids_of read.0) Given 0 [] in
        let trees : done.0.trees ≡ wrote.0 = ap (λ (w : Written). w.trees) (same_value wrote.2) in
        let all : after.trees ≡ wrote.0 = ap (λ (d : Database). d.trees) now ∙ trees in
        (read.0, read.1.answer Null, subst (λ (d : Trees). Writes schema Enforced db.trees edit (Ok d)) (sym all) wrote.1, ap (λ (d : Database). d.schema) now)

    pub does_drop : ((olds : List Row) → works schema Enforced 0 tree olds [] ≡ []) → (limit : Option ℕ) (st : State) (db : Database) (sql : List ℕ) (tally : Tally) (after : Database) → db.schema ≡ schema → AreTyped schema good db.trees
        → Does limit (mode_of st) params db sql None (drop_command at tree wanted) (Ok (tally, after)) → Drops schema s db.trees after.trees p × (after.schema ≡ schema)
    does_drop frees limit st db sql tally after has kept h =
        let d = deletes limit st db sql tally after has h in
        let edit = edit_of db.trees s.table (ids_of d.0) Given 0 [] in
        (drops_means db.trees kept d.0 after.trees d.1 (one_step schema Enforced db.trees after.trees edit (frees (taken_by db.trees edit)) d.2), d.3)
