-- Rows of a table are deleted, and those of another that refer to them go with them.
use Rattle.std.proofs.Common.{◌≡◌, ◌⊎◌, ℕ, ℤ, zero, suc, ◌&&◌, List, [], ◌∷◌, ◌++◌, cond, Bool, true, false, Ok, arith, refl, sym, ap, ◌∙◌, subst, subst₂, inl, inr, true≢false, length, length-append, take, eqb-true, eq-eqb}
use Rattle.std.specs.List.{AllByRecursion, list_any, list_all}
use Rattle.std.specs.Prelude.{◌==◌}
use Rattle.std.specs.Str.{bytes_eq}
use Rattle.std.proofs.lemmas.Bool.{and_parts, cases_Bool, false_from_ne_true}
use Rattle.sqlite_value.specs.declared.value.Value.TheVariants.{Int, Text}
use Rattle.sqlite_value.specs.Order.{Row}
use Rattle.sqlite_value.specs.Keys.{plain}
use Rattle.sqlite_trees.specs.Tree.{Trees, rowid, IsTable}
use Rattle.sqlite_sql.specs.Query.{IsAnswer}
use Rattle.sqlite_sql.specs.Program.{overlay}
use Rattle.sqlite_schema.specs.declared.schema.Keys.TheVariants.{Enforced}
use Rattle.sqlite_schema.specs.declared.schema.Constraint.TheVariants.{ForeignKey}
use Rattle.sqlite_schema.specs.declared.schema.Reference.{Reference}
use Rattle.sqlite_schema.specs.declared.schema.Table.{Table}
use Rattle.sqlite_schema.specs.Rules.{Obeys, agree, has_parent}
use Rattle.sqlite_rules.specs.declared.action.Deed.TheVariants.{Delete}
use Rattle.sqlite_rules.specs.declared.error.Rowids.TheVariants.{Given}
use Rattle.sqlite_rules.specs.Lists.{Has}
use Rattle.sqlite_rules.specs.Calls.{ids_of}
use Rattle.sqlite_rules.specs.Edit.{Edit, edit_of, row_at, without_all, taken_by, Applies}
use Rattle.sqlite_rules.specs.Action.{Work, Writes, works, Leads, loses, pairs, is_child_of, AreChildren, Acts, ActsOn, action_edit}
use Rattle.sqlite_rules.proofs.ListLemmas.{all_has, all_from, some_has}
use Rattle.sqlite_rules.proofs.PlaceLemmas.{tied_same, row_at_is}
use Rattle.sqlite_rules.proofs.ProbeLemmas.{has_mapped}
use Rattle.sqlite_rules.proofs.RuleLemmas.{keeps_at}
use Rattle.sql_tables.specs.Tables.{of_parent, names_of, hub_schema}
use Rattle.sql_tables.specs.Forms.{where_is, drop_query}
use Rattle.sql_rows.specs.TypedTable.{TypedTable, text_part, typed, AreTyped}
use Rattle.sql_rows.specs.TypedTables.{hub_good}
use Rattle.sql_rows.proofs.TableLemmas.{table_without, left_from, left_has, has_its_id, tied_by}
use Rattle.sql_rows.proofs.TypedTableLemmas as typed_table
use Rattle.sql_rows.proofs.TypedTableLemmas.{IsTypedTable, agree_keys}
use Rattle.sql_rows.proofs.ReadLaws.{IsTest}
use Rattle.sql_rows.proofs.DropLemmas.{DropsIn, drops_means, gone_from}

-- ---- which rows go with others

-- a FOREIGN KEY by the first two columns of both tables, which are the key of the parent
abbrev pub to_parent : Table → Reference
to_parent parent = of_parent (1 ∷ 2 ∷ []) parent.name (take 2 (names_of parent))

-- the children of these rows are to be deleted
abbrev pub deletes_children : Table → Table → List Row → Work
deletes_children parent child olds = record { depth = 0; child = child; ref = to_parent parent; places = 1 ∷ 2 ∷ []; order = plain; deed = Delete; moves = pairs olds [] }

abbrev pub loses_any : List Row → Bool
loses_any olds = list_any (loses plain (1 ∷ 2 ∷ [])) (pairs olds [])

-- the parent of a row, by the columns of both
abbrev pub is_parent_of : Row → Row → Bool
is_parent_of child parent = agree plain (1 ∷ 2 ∷ []) parent (1 ∷ 2 ∷ []) child

-- the rows of one table, and those that go with them
pub record GoWith {P C : Type 0} (parents : TypedTable P) (children : TypedTable C) : Type 1 where
  pub at : ℕ
  pub to : ℕ
  pub on_parents : IsTypedTable hub_schema hub_good at parents
  pub on_children : IsTypedTable hub_schema hub_good to children
  pub apart : parents.table.tree ≡ children.table.tree → ⊥
  -- the first two columns of each
  pub op : P → List ℕ
  pub name : P → List ℕ
  pub child_op : C → List ℕ
  pub child_name : C → List ℕ
  pub parent_row : (t : P) → take 2 (parents.row t) ≡ Text (op t) ∷ Text (name t) ∷ []
  pub child_row : (t : C) → take 2 (children.row t) ≡ Text (child_op t) ∷ Text (child_name t) ∷ []
  pub test : (b key : List ℕ) → IsTest parents (where_is 0 (1 ∷ 2 ∷ [])) (Text b ∷ Text key ∷ []) (λ t. bytes_eq (op t) b && bytes_eq (name t) key)
  -- the children refer to the parents alone, and nothing else refers to either
  pub refers : children.table.references ≡ to_parent parents.table ∷ []
  pub held : (db : Trees) (id : ℤ) (t : C) → has_parent hub_schema.tables db (Int id ∷ children.row t) (to_parent parents.table) ≡ list_any (is_parent_of (Int id ∷ children.row t)) (db parents.table.tree)
  pub sets_off : (olds : List Row) → works hub_schema Enforced 0 parents.table.tree olds [] ≡ cond (loses_any olds) (deletes_children parents.table children.table olds ∷ []) []
  pub frees : (depth : ℕ) (olds : List Row) → works hub_schema Enforced depth children.table.tree olds [] ≡ []

-- a deletion is its edit, and then that of some children of the deleted rows
pub record Cascades (parent child : Table) (db : Trees) (edit : Edit) (mid final : Trees) : Type 0 where
  pub applied : Applies hub_schema Enforced db edit mid
  pub ids : List ℤ
  pub gone : (id : ℤ) → Has ids id → (r : Row) × Has (mid child.tree) r × (list_any (is_child_of (deletes_children parent child (taken_by db edit)) r) (pairs (taken_by db edit) []) ≡ true) × (rowid r ≡ Int id)
  pub children_left : final child.tree ≡ without_all (mid child.tree) ids
  pub others : AllByRecursion (λ t. (t.tree ≡ child.tree → ⊥) → final t.tree ≡ mid t.tree) hub_schema.tables

-- ---- what is set off

nothing_left : (n : ℕ) (db next : Trees) → Leads hub_schema Enforced n db [] (Ok next) → next ≡ db
nothing_left zero db next h = let e = h.1 in cc
nothing_left (suc n) db next h = absurd (omega (arith, ap length h.2, length-append h.0 (h.1 ∷ [])))

single_end : {X : Type 0} (x : X) (ys : List X) (y : X) → x ∷ [] ≡ ys ++ y ∷ [] → (ys ≡ []) × (x ≡ y)
single_end x [] y e = (refl, cc)
single_end x (z ∷ zs) y e = absurd (omega (arith, ap length e, length-append zs (y ∷ [])))

pairs_from : (olds : List Row) (m : Row × Row) → Has (pairs olds []) m → Has olds m.0
pairs_from [] m none = absurd none
pairs_from (old ∷ olds) m (inl same) = inl (ap (λ (x : Row × Row). x.0) same)
pairs_from (old ∷ olds) m (inr later) = inr (pairs_from olds m later)

module _ {P C : Type 0} (parents : TypedTable P) (children : TypedTable C) (bond : GoWith parents children) where
  abbrev parent : Table
  parent = parents.table

  abbrev child : Table
  child = children.table

  abbrev IsCarriedOut : Trees → List Row → List ℤ → Trees → Type 0
  IsCarriedOut db olds ids final = ((ids ≡ []) × (final ≡ db)) ⊎ Applies hub_schema Enforced db (action_edit db (deletes_children parent child olds) ids) final

  carries_out : (n : ℕ) (db final : Trees) (olds : List Row) → Leads hub_schema Enforced n db (deletes_children parent child olds ∷ []) (Ok final) → (ids : List ℤ) × AreChildren db (deletes_children parent child olds) ids × IsCarriedOut db olds ids final
  carries_out zero db final olds h = absurd (let e = h.0 in cc)
  carries_out (suc n) db final olds h =
      let one = single_end (deletes_children parent child olds) h.0 h.1 h.2 in
      let acts = subst₂ (λ b w. Acts hub_schema Enforced (Leads hub_schema Enforced n) db w b (Ok final)) one.0 (sym one.1) h.3 in
      (acts.0, acts.1, carried acts.0 acts.2)
    where
      carried : (ids : List ℤ) → ActsOn hub_schema Enforced (Leads hub_schema Enforced n) db (deletes_children parent child olds) [] (Ok final) ids → IsCarriedOut db olds ids final
      carried [] done = inl (refl, nothing_left n db final done)
      carried (i ∷ ids) (inl refused) = absurd (let e = refused.2 in cc)
      carried (i ∷ ids) (inr (inl big)) = absurd (let e = big.3 in cc)
      carried (i ∷ ids) (inr (inr goes)) =
          let left = subst (λ stack. Leads hub_schema Enforced n goes.0 stack (Ok final)) (bond.frees 1 (taken_by db (action_edit db (deletes_children parent child olds) (i ∷ ids)))) goes.2 in
          inr (subst (Applies hub_schema Enforced db (action_edit db (deletes_children parent child olds) (i ∷ ids))) (sym (nothing_left n goes.0 final left)) goes.1)

  pub cascades : (db : Trees) (ids : List ℤ) (final : Trees) → Writes hub_schema Enforced db (edit_of db parent ids Given 0 []) (Ok final) → (mid : Trees) × Cascades parent child db (edit_of db parent ids Given 0 []) mid final
  cascades db ids final (inl refused) = absurd (let e = refused.2 in cc)
  cascades db ids final (inr (inl big)) = absurd (let e = big.3 in cc)
  cascades db ids final (inr (inr went)) =
      let olds = taken_by db (edit_of db parent ids Given 0 []) in
      let stack : Leads hub_schema Enforced went.2.0 went.0 (cond (loses_any olds) (deletes_children parent child olds ∷ []) []) (Ok final) = subst (λ w. Leads hub_schema Enforced went.2.0 went.0 w (Ok final)) (bond.sets_off olds) went.2.1 in
      (went.0, go (loses_any olds) stack)
    where
      none_gone : (mid : Trees) → final ≡ mid → Applies hub_schema Enforced db (edit_of db parent ids Given 0 []) mid → Cascades parent child db (edit_of db parent ids Given 0 []) mid final
      none_gone mid same applied = record {
        applied = applied;
        ids = [];
        gone = λ id none. absurd none;
        children_left = ap (λ (d : Trees). d child.tree) same;
        others = all_from (λ (t : Table). (t.tree ≡ child.tree → ⊥) → final t.tree ≡ mid t.tree) hub_schema.tables (λ t h other. ap (λ (d : Trees). d t.tree) same);
      }

      go : (b : Bool) → Leads hub_schema Enforced went.2.0 went.0 (cond b (deletes_children parent child (taken_by db (edit_of db parent ids Given 0 [])) ∷ []) []) (Ok final) → Cascades parent child db (edit_of db parent ids Given 0 []) went.0 final
      go false leads = none_gone went.0 (nothing_left went.2.0 went.0 final leads) went.1
      go true leads =
          let c = carries_out went.2.0 went.0 final (taken_by db (edit_of db parent ids Given 0 [])) leads in
          elim c.2 [
            | inl none ↦ none_gone went.0 none.1 went.1
            | inr applied ↦ record { applied = went.1; ids = c.0; gone = c.1.sound; children_left = applied.rows; others = applied.tables }
          ]

  -- a row and one that refers to it have the same texts
  same_texts : (i j : ℤ) (t : P) (u : C) → agree plain (1 ∷ 2 ∷ []) (Int i ∷ parents.row t) (1 ∷ 2 ∷ []) (Int j ∷ children.row u) ≡ true → (bond.op t ≡ bond.child_op u) × (bond.name t ≡ bond.child_name u)
  same_texts i j t u h =
      let both = agree_keys (text_part ∷ text_part ∷ []) 1 1 (Int i ∷ parents.row t) (Int j ∷ children.row u) (bond.op t ∷ bond.name t ∷ []) (bond.child_op u ∷ bond.child_name u ∷ []) refl refl (bond.parent_row t) (bond.child_row u) h in
      (cc, cc)

  same_texts_back : (i j : ℤ) (t : P) (u : C) → agree plain (1 ∷ 2 ∷ []) (Int j ∷ children.row u) (1 ∷ 2 ∷ []) (Int i ∷ parents.row t) ≡ true → (bond.op t ≡ bond.child_op u) × (bond.name t ≡ bond.child_name u)
  same_texts_back i j t u h =
      let both = agree_keys (text_part ∷ text_part ∷ []) 1 1 (Int j ∷ children.row u) (Int i ∷ parents.row t) (bond.child_op u ∷ bond.child_name u ∷ []) (bond.op t ∷ bond.name t ∷ []) refl refl (bond.child_row u) (bond.parent_row t) h in
      (cc, cc)

  module _ (b key : List ℕ) (db mid final : Trees) (kept : AreTyped hub_schema hub_good db) (rows : List Row) (answer : IsAnswer (drop_query parent.tree (where_is 0 (1 ∷ 2 ∷ []))) (overlay db []) (Text b ∷ Text key ∷ []) rows)
      (c : Cascades parent child db (edit_of db parent (ids_of rows) Given 0 []) mid final) where
    abbrev p : P → Bool
    p t = bytes_eq (bond.op t) b && bytes_eq (bond.name t) key

    abbrev q : C → Bool
    q t = bytes_eq (bond.child_op t) b && bytes_eq (bond.child_name t) key

    parents_mid : DropsIn parents db mid p
    parents_mid = (drops_means hub_schema hub_good bond.at parents bond.on_parents (where_is 0 (1 ∷ 2 ∷ [])) (Text b ∷ Text key ∷ []) p (bond.test b key) db kept rows mid answer c.applied).inside

    same_parents : final parent.tree ≡ mid parent.tree
    same_parents = all_has (λ (t : Table). (t.tree ≡ child.tree → ⊥) → final t.tree ≡ mid t.tree) hub_schema.tables parent c.others bond.on_parents.listed bond.apart

    same_children : mid child.tree ≡ db child.tree
    same_children = all_has (λ (t : Table). (t.tree ≡ parent.tree → ⊥) → mid t.tree ≡ db t.tree) hub_schema.tables child c.applied.tables bond.on_children.listed (λ e. bond.apart (sym e))

    children_are : final child.tree ≡ without_all (db child.tree) c.ids
    children_are = c.children_left ∙ ap (λ l. without_all l c.ids) same_children

    pub parents_dropped : DropsIn parents db final p
    parents_dropped = record {
      left = λ x h. parents_mid.left x (subst (λ l. Has l x) same_parents h);
      spared = λ x h apart. subst (λ l. Has l x) (sym same_parents) (parents_mid.spared x h apart);
      ordered = subst IsTable (sym same_parents) parents_mid.ordered;
    }

    child_was : (x : Row) → Has (final child.tree) x → Has (db child.tree) x
    child_was x h = (left_from c.ids (db child.tree) x (subst (λ l. Has l x) children_are h)).0

    children_ordered : IsTable (final child.tree)
    children_ordered = subst IsTable (sym children_are) (table_without c.ids (db child.tree) (typed_table.table_in hub_schema hub_good bond.to children bond.on_children db kept))

    pub others_are : (t : Table) → Has hub_schema.tables t → (t.tree ≡ parent.tree → ⊥) → (t.tree ≡ child.tree → ⊥) → final t.tree ≡ db t.tree
    others_are t listed no_parent no_child =
        all_has (λ (t : Table). (t.tree ≡ child.tree → ⊥) → final t.tree ≡ mid t.tree) hub_schema.tables t c.others listed no_child
        ∙ all_has (λ (t : Table). (t.tree ≡ parent.tree → ⊥) → mid t.tree ≡ db t.tree) hub_schema.tables t c.applied.tables listed no_parent

    -- a child that is gone was one of a row that passes
    child_spared : (x : Row) → Has (db child.tree) x → q (typed children x) ≡ false → Has (final child.tree) x
    child_spared x h apart = subst (λ l. Has l x) (sym children_are) (left_has c.ids (db child.tree) x h (λ id gone. false_from_ne_true _ (λ hit.
        let r = c.gone id gone in
        let there = subst (λ l. Has l r.0) same_children r.1 in
        let same : x ≡ r.0 = tied_same (db child.tree) x r.0 (typed_table.table_in hub_schema hub_good bond.to children bond.on_children db kept) h there (tied_by x r.0 id hit r.3) in
        let m = some_has (is_child_of (deletes_children parent child (taken_by db (edit_of db parent (ids_of rows) Given 0 []))) r.0) (pairs (taken_by db (edit_of db parent (ids_of rows) Given 0 [])) []) r.2 in
        let agreed : agree plain (1 ∷ 2 ∷ []) r.0 (1 ∷ 2 ∷ []) m.0.0 ≡ true = (and_parts (loses plain (1 ∷ 2 ∷ []) m.0) (agree plain (1 ∷ 2 ∷ []) r.0 (1 ∷ 2 ∷ []) m.0.0) m.2).1 in
        let j = has_mapped (row_at (db parent.tree)) (ids_of rows) m.0.0 (pairs_from _ m.0 m.1) in
        let t = gone_from hub_schema hub_good bond.at parents bond.on_parents (where_is 0 (1 ∷ 2 ∷ [])) (Text b ∷ Text key ∷ []) p (bond.test b key) db kept rows answer j.0 j.1 in
        let old : m.0.0 ≡ t.0 = j.2 ∙ row_at_is (db parent.tree) j.0 t.0 (typed_table.table_in hub_schema hub_good bond.at parents bond.on_parents db kept) t.1 (has_its_id t.0 j.0 t.3) in
        let u = typed_table.row_in hub_schema hub_good bond.to children bond.on_children db kept r.0 there in
        let v = typed_table.row_in hub_schema hub_good bond.at parents bond.on_parents db kept t.0 t.1 in
        let keys = same_texts_back v.0 u.0 v.1 u.1 (subst₂ (λ (x y : Row). agree plain (1 ∷ 2 ∷ []) x (1 ∷ 2 ∷ []) y ≡ true) u.2 (old ∙ v.2) agreed) in
        let passes : p v.1 ≡ true = sym (ap p (typed_table.typed_is hub_schema hub_good bond.at parents bond.on_parents db kept t.0 t.1)) ∙ t.2 in
        let fails : q u.1 ≡ false = sym (ap q (ap (typed children) same ∙ typed_table.typed_is hub_schema hub_good bond.to children bond.on_children db kept r.0 there)) ∙ apart in
        true≢false (sym passes ∙ (λ i. bytes_eq (keys.0 i) b && bytes_eq (keys.1 i) key) ∙ fails))))

    -- a child that is there has its parent
    child_apart : Obeys hub_schema final → (x : Row) → Has (final child.tree) x → q (typed children x) ≡ false
    child_apart sound x h = false_from_ne_true _ (λ test.
        let u = typed_table.row_in hub_schema hub_good bond.to children bond.on_children db kept x (child_was x h) in
        let all : list_all (has_parent hub_schema.tables final x) (to_parent parent ∷ []) ≡ true =
        subst (λ (refs : List Reference). list_all (has_parent hub_schema.tables final x) refs ≡ true) bond.refers (keeps_at ForeignKey hub_schema final child x (sound.rules ForeignKey) bond.on_children.listed h) in
        let one : has_parent hub_schema.tables final (Int u.0 ∷ children.row u.1) (to_parent parent) ≡ true =
        subst (λ (r : Row). has_parent hub_schema.tables final r (to_parent parent) ≡ true) u.2 (and_parts (has_parent hub_schema.tables final x (to_parent parent)) true all).0 in
        let y = some_has (is_parent_of (Int u.0 ∷ children.row u.1)) (final parent.tree) (sym (bond.held final u.0 u.1) ∙ one) in
        let was = parents_dropped.left y.0 y.1 in
        let v = typed_table.row_in hub_schema hub_good bond.at parents bond.on_parents db kept y.0 was.0 in
        let keys = same_texts v.0 u.0 v.1 u.1 (subst (λ (r : Row). agree plain (1 ∷ 2 ∷ []) r (1 ∷ 2 ∷ []) (Int u.0 ∷ children.row u.1) ≡ true) v.2 y.2) in
        let fails : p v.1 ≡ false = sym (ap p (typed_table.typed_is hub_schema hub_good bond.at parents bond.on_parents db kept y.0 was.0)) ∙ was.1 in
        let passes : q u.1 ≡ true = sym (ap q (typed_table.typed_is hub_schema hub_good bond.to children bond.on_children db kept x (child_was x h))) ∙ test in
        true≢false (sym passes ∙ sym (λ i. bytes_eq (keys.0 i) b && bytes_eq (keys.1 i) key) ∙ fails))

    pub children_dropped : Obeys hub_schema final → DropsIn children db final q
    children_dropped sound = record { left = λ x h. (child_was x h, child_apart sound x h); spared = child_spared; ordered = children_ordered }

    -- each row that is left was there
    still_typed : (t : Table) → Has hub_schema.tables t → IsTable (final t.tree) → ((x : Row) → Has (final t.tree) x → Has (db t.tree) x) → IsTable (final t.tree) × AllByRecursion (hub_good t.tree) (final t.tree)
    still_typed t listed ordered was = (
      ordered,
      all_from (hub_good t.tree) (final t.tree) (λ x h. all_has (hub_good t.tree) (db t.tree) x (all_has (λ (t : Table). IsTable (db t.tree) × AllByRecursion (hub_good t.tree) (db t.tree)) hub_schema.tables t kept listed).1 (was x h)),
    )

    pub tables_kept : AreTyped hub_schema hub_good final
    tables_kept = all_from (λ (t : Table). IsTable (final t.tree) × AllByRecursion (hub_good t.tree) (final t.tree)) hub_schema.tables (λ t listed.
        elim (cases_Bool (t.tree == parent.tree)) [
          | inl e ↦ subst (λ n. IsTable (final n) × AllByRecursion (hub_good n) (final n)) (sym (eqb-true _ _ e)) (still_typed parent bond.on_parents.listed parents_dropped.ordered (λ x h. (parents_dropped.left x h).0))
          | inr no_parent ↦ elim (cases_Bool (t.tree == child.tree)) [
            | inl e ↦ subst (λ n. IsTable (final n) × AllByRecursion (hub_good n) (final n)) (sym (eqb-true _ _ e)) (still_typed child bond.on_children.listed children_ordered child_was)
            | inr no_child ↦
                let same = others_are t listed (λ k. true≢false (sym (eq-eqb _ _ k) ∙ no_parent)) (λ k. true≢false (sym (eq-eqb _ _ k) ∙ no_child)) in
                subst (λ (l : List Row). IsTable l × AllByRecursion (hub_good t.tree) l) (sym same) (all_has (λ (t : Table). IsTable (db t.tree) × AllByRecursion (hub_good t.tree) (db t.tree)) hub_schema.tables t kept listed)
          ]
        ])
