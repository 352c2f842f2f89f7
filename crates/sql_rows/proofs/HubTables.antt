-- The tables of the hub: their indexes, and what a change of some of them leaves of the rows.
use Rattle.std.proofs.Common.{◌≡◌, ◌==◌, ◌&&◌, ℕ, List, [], ◌∷◌, true, false, not, map, if◌then◌else◌, refl, sym, ap, ◌∙◌, subst, inl, inr, eqb-true, eq-eqb, true≢false}
use Rattle.std.specs.List.{AllByRecursion, list_any}
use Rattle.std.proofs.lemmas.Bool.{cases_Bool}
use Rattle.sqlite_value.specs.Keys.{plain}
use Rattle.sqlite_trees.specs.Tree.{Trees}
use Rattle.sqlite_schema.specs.declared.schema.Index.{Index}
use Rattle.sqlite_schema.specs.declared.schema.Table.{Table}
use Rattle.sqlite_rules.specs.Lists.{Has}
use Rattle.sqlite_rules.proofs.ListLemmas.{all_has, all_from}
use Rattle.hub_rows.specs.Keyed.{put, put_all}
use Rattle.hub_rows.specs.Rows.{Rows}
use Rattle.sql_tables.specs.Tables.{hub_schema}
use Rattle.sql_rows.specs.TypedTable.{TypedTable, cmp, typed, rows_in, Spares}
use Rattle.sql_rows.specs.TypedTables.{metas, rows_of}
use Rattle.sql_rows.specs.Kept.{IsMade, IsNumbered, IsPutIn, our_meta}
use Rattle.sql_rows.proofs.StoreLemmas.{AreSame}

pub all_plain : AllByRecursion (λ (i : Index). i.order ≡ plain) hub_schema.indexes
all_plain = (refl, (refl, (refl, (refl, (refl, (refl, (refl, (refl, (refl, (refl, (refl, (refl, (refl, (refl, (refl, (refl, (refl, (refl, (refl, (refl, tt))))))))))))))))))))

-- a table with another tree has the rows that it had
pub same_in : {T : Type 0} (s : TypedTable T) (tree : ℕ) (old new : Trees) → Has hub_schema.tables s.table → Spares hub_schema tree old new → (s.table.tree ≡ tree → ⊥) → rows_in s new ≡ rows_in s old
same_in s tree old new listed frame apart = ap (λ l. put_all (cmp s) (map (typed s) l) []) (all_has (λ (t : Table). (t.tree ≡ tree → ⊥) → new t.tree ≡ old t.tree) hub_schema.tables s.table frame listed apart)

-- the number of our schema stays where hub_meta has the rows that it had
pub stays_numbered : (old new : Trees) → rows_in metas new ≡ rows_in metas old → IsNumbered old → IsNumbered new
stays_numbered old new same has = subst (λ l. Has l our_meta) (sym same) has

-- ---- the tables with other trees than these

abbrev pub IsApart : List ℕ → ℕ → Type 0
IsApart trees tree = AllByRecursion (λ n. tree ≡ n → ⊥) trees

pub spared : (tree : ℕ) (old new : Trees) → Spares hub_schema tree old new → (t : Table) → Has hub_schema.tables t → IsApart (tree ∷ []) t.tree → new t.tree ≡ old t.tree
spared tree old new frame t listed apart = all_has (λ (t : Table). (t.tree ≡ tree → ⊥) → new t.tree ≡ old t.tree) hub_schema.tables t frame listed apart.0

table_at : (ts : List Table) (tree : ℕ) → list_any (λ t. t.tree == tree) ts ≡ true → (t : Table) × Has ts t × (t.tree ≡ tree)
table_at [] tree any = absurd (true≢false (sym any))
table_at (t ∷ ts) tree any = elim (cases_Bool (t.tree == tree)) [
  | inl e ↦ (t, inl refl, eqb-true t.tree tree e)
  | inr e ↦ let more = table_at ts tree (rw e at any) in (more.0, inr more.1, more.2)
]

is_apart : (trees : List ℕ) (tree : ℕ) → list_any (λ n. n == tree) trees ≡ false → IsApart trees tree
is_apart [] tree none = tt
is_apart (n ∷ trees) tree none = elim (cases_Bool (n == tree)) [
  | inl e ↦ absurd (true≢false (rw e at none))
  | inr e ↦ (λ same. absurd (true≢false (sym (eq-eqb n tree (sym same)) ∙ e)), is_apart trees tree (rw e at none))
]

-- the new rows of the tables, but for these trees
abbrev pub with_new : List Table → List ℕ → Trees → Trees → Trees
with_new ts trees old new tree = if not (list_any (λ n. n == tree) trees) && list_any (λ t. t.tree == tree) ts then new tree else old tree

all_old : (ts : List Table) (trees : List ℕ) (old new : Trees) → ((t : Table) → Has ts t → IsApart trees t.tree → new t.tree ≡ old t.tree) → (tree : ℕ) → with_new ts trees old new tree ≡ old tree
all_old ts trees old new same tree = elim (cases_Bool (list_any (λ n. n == tree) trees)) [
  | inl e ↦ rw e refl
  | inr e ↦ elim (cases_Bool (list_any (λ t. t.tree == tree) ts)) [
    | inl h ↦ let t = table_at ts tree h in rw (e, h) (subst (λ n. IsApart trees n → new n ≡ old n) t.2 (same t.0 t.1) (is_apart trees tree e))
    | inr h ↦ rw (e, h) refl
  ]
]

-- the tables with other trees are as they were
pub rest_is : (trees : List ℕ) (old new : Trees) → ((t : Table) → Has hub_schema.tables t → IsApart trees t.tree → new t.tree ≡ old t.tree) → with_new hub_schema.tables trees old new ≡ old
rest_is trees old new same = λ i tree. all_old hub_schema.tables trees old new same tree i

-- ---- where each table is as it was

pub all_same : {T : Type 0} (s : TypedTable T) (old new : Trees) → Has hub_schema.tables s.table → AreSame old new → rows_in s new ≡ rows_in s old
all_same s old new listed same = ap (λ l. put_all (cmp s) (map (typed s) l) []) (all_has (λ (t : Table). new t.tree ≡ old t.tree) hub_schema.tables s.table same listed)

-- what is put later is put
pub put_later : {T : Type 0} (s : TypedTable T) (t : T) (a b c : Trees) → Has hub_schema.tables s.table → AreSame a b → IsPutIn s t b c → IsPutIn s t a c
put_later s t a b c listed same it = record {
  rows = it.rows ∙ ap (put (cmp s) t) (all_same s a b listed same);
  frame = all_from (λ (u : Table). (u.tree ≡ s.table.tree → ⊥) → c u.tree ≡ a u.tree) hub_schema.tables
      (λ u there other. all_has (λ (u : Table). (u.tree ≡ s.table.tree → ⊥) → c u.tree ≡ b u.tree) hub_schema.tables u it.frame there other ∙ all_has (λ (u : Table). b u.tree ≡ a u.tree) hub_schema.tables u same there);
}

-- and what is made later is made
pub made_later : (f : Rows → Rows) (a b c : Trees) → AreSame a b → IsMade f b c → IsMade f a c
made_later f a b c same made = made ∙ ap (λ (db : Trees). f (rows_of db)) (rest_is [] a b (λ t listed apart. all_has (λ (u : Table). b u.tree ≡ a u.tree) hub_schema.tables t same listed))
