-- What a statement makes of the tables that deletes rows of one, where those of another go with them.
use Rattle.std.proofs.Common.{◌≡◌, ◌&&◌, ℕ, List, [], ◌∷◌, Some, ap, map, filter, not, inl, refl}
use Rattle.std.specs.Str.{bytes_eq}
use Rattle.sqlite_value.specs.declared.value.Value.TheVariants.{Text}
use Rattle.sqlite_value.specs.Keys.{plain, joined}
use Rattle.sqlite_value.specs.Order.{Row}
use Rattle.sqlite_trees.specs.Tree.{Trees}
use Rattle.sqlite_schema.specs.declared.schema.Table.{Table}
use Rattle.sqlite_schema.specs.Names.{same_name}
use Rattle.sqlite_schema.specs.Rules.{Obeys, parent_key}
use Rattle.sqlite_sql.specs.Query.{IsAnswer}
use Rattle.sqlite_sql.specs.Program.{overlay}
use Rattle.sqlite_rules.specs.declared.error.Rowids.TheVariants.{Given}
use Rattle.sqlite_rules.specs.Lists.{Has}
use Rattle.sqlite_rules.specs.Calls.{ids_of}
use Rattle.sqlite_rules.specs.Edit.{edit_of}
use Rattle.hub_rows.specs.Keyed.{put_all}
use Rattle.sql_tables.specs.Tables.{hub_schema, hub_meta, hub_tag, hub_list}
use Rattle.sql_tables.specs.Forms.{where_is, drop_query, drop_command}
use Rattle.sql_tables.specs.Meanings.{IsWrite}
use Rattle.sql_rows.specs.TypedTable.{TypedTable, AreTyped, cmp, typed, rows_in}
use Rattle.sql_rows.specs.TypedTables.{metas, hub_good}
use Rattle.sql_rows.proofs.HubTables.{IsApart, stays_numbered}
use Rattle.sql_rows.proofs.DropLemmas.{deletes, drop_means}
use Rattle.sql_rows.proofs.CascadeLemmas.{GoWith, Cascades, to_parent, cascades, parents_dropped, children_dropped, tables_kept, others_are}
use Rattle.sql_rows.proofs.StoreLemmas.{Means}

-- ---- the keys that rows of other tables refer to

pub key_of_tag : parent_key hub_schema.tables (to_parent hub_tag) ≡ Some (6, 1 ∷ 2 ∷ [], plain)
unfolding same_name joined
key_of_tag = refl

pub key_of_list : parent_key hub_schema.tables (to_parent hub_list) ≡ Some (16, 1 ∷ 2 ∷ [], plain)
unfolding same_name joined
key_of_list = refl

-- ---- the rows of both tables

module _ {P C : Type 0} (parents : TypedTable P) (children : TypedTable C) (bond : GoWith parents children) (b key : List ℕ) where
  -- the rows with these texts are dropped from both tables
  pub record AreDropped (old new : Trees) : Type 0 where
    pub rows : rows_in parents new ≡ filter (λ t. not (bytes_eq (bond.op t) b && bytes_eq (bond.name t) key)) (rows_in parents old)
    pub more : rows_in children new ≡ filter (λ t. not (bytes_eq (bond.child_op t) b && bytes_eq (bond.child_name t) key)) (rows_in children old)
    pub frame : (t : Table) → Has hub_schema.tables t → IsApart (parents.table.tree ∷ children.table.tree ∷ []) t.tree → new t.tree ≡ old t.tree

  module _ (db mid final : Trees) (kept : AreTyped hub_schema hub_good db) (rows : List Row) (answer : IsAnswer (drop_query parents.table.tree (where_is 0 (1 ∷ 2 ∷ []))) (overlay db []) (Text b ∷ Text key ∷ []) rows)
      (c : Cascades parents.table children.table db (edit_of db parents.table (ids_of rows) Given 0 []) mid final) where
    both_dropped : Obeys hub_schema db → Obeys hub_schema final → AreDropped db final
    both_dropped obeys sound =
        let are_typed = tables_kept parents children bond b key db mid final kept rows answer c in
        record {
          rows = drop_means hub_schema hub_good bond.at parents bond.on_parents db final (λ t. bytes_eq (bond.op t) b && bytes_eq (bond.name t) key) kept obeys are_typed sound (parents_dropped parents children bond b key db mid final kept rows answer c);
          more = drop_means hub_schema hub_good bond.to children bond.on_children db final (λ t. bytes_eq (bond.child_op t) b && bytes_eq (bond.child_name t) key) kept obeys are_typed sound (children_dropped parents children bond b key db mid final kept rows answer c sound);
          frame = λ t listed apart. others_are parents children bond b key db mid final kept rows answer c t listed apart.0 apart.1.0;
        }

  -- neither table is hub_meta
  pub drops_with : (sql : List ℕ) → IsWrite sql (drop_command bond.at parents.table.tree (where_is 0 (1 ∷ 2 ∷ []))) → IsApart (parents.table.tree ∷ children.table.tree ∷ []) 0 → Means sql (Text b ∷ Text key ∷ []) AreDropped
  drops_with sql text others = record {
    command = drop_command bond.at parents.table.tree (where_is 0 (1 ∷ 2 ∷ []));
    is = text.0;
    plain = text.1;
    writes = tt;
    does = λ limit st db words tally after has kept obeys h.
        let d = deletes hub_schema hub_good bond.at parents bond.on_parents (where_is 0 (1 ∷ 2 ∷ [])) (Text b ∷ Text key ∷ []) (λ t. bytes_eq (bond.op t) b && bytes_eq (bond.name t) key) (bond.test b key) limit st db words tally after has h in
        let c = cascades parents children bond db.trees (ids_of d.0) after.trees d.2 in (
          d.3,
          tables_kept parents children bond b key db.trees c.0 after.trees kept d.0 d.1 c.1,
          λ sound.
              let both = both_dropped db.trees c.0 after.trees kept d.0 d.1 c.1 obeys sound in
              (both, stays_numbered db.trees after.trees (ap (λ (l : List Row). put_all (cmp metas) (map (typed metas) l) []) (both.frame hub_meta (inl refl) others))),
        );
  }
