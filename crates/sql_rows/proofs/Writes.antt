-- What the writing texts mean, each by one of the forms.
use Rattle.std.proofs.Common.{◌≡◌, ℕ, zero, suc, nat_lt, ◌+◌, List, [], length, unwrap_or, Bool, true, inl, refl, subst, sym, arith}
use Rattle.std.proofs.lemmas.Bool.Decides.{nat_tests}
use Rattle.sqlite_value.specs.Order.{Row}
use Rattle.sqlite_trees.specs.Tree.{Trees}
use Rattle.sqlite_schema.specs.declared.schema.Keys.TheVariants.{Enforced}
use Rattle.sqlite_rules.specs.Action.{works}
use Rattle.sql_tables.specs.Tables.{hub_schema}
use Rattle.sqlite_sql.specs.Term.{Term}
use Rattle.sqlite_schema.specs.Rules.{Obeys}
use Rattle.sql_tables.specs.Forms.{add_command, put_command, update_command, drop_command}
use Rattle.sql_tables.specs.Meanings.{IsWrite}
use Rattle.sql_rows.specs.TypedTable.{TypedTable, AreTyped, Spares}
use Rattle.sql_rows.specs.TypedTables.{hub_good, metas}
use Rattle.sql_rows.specs.Kept.{IsDropped, IsNumbered, IsPutIn}
use Rattle.sql_rows.proofs.TypedTableLemmas.{IsTypedTable}
use Rattle.sql_rows.proofs.PutLemmas.{IsPutForm, does_put, put_means, put_typed}
use Rattle.sql_rows.proofs.AddLemmas.{does_add}
use Rattle.sql_rows.proofs.UpdateLemmas.{IsUpdateForm, Updates, does_update, same_typed}
use Rattle.sql_rows.proofs.ReadLaws.{IsTest}
use Rattle.sql_rows.proofs.DropLemmas.{does_drop, drop_means, drop_typed}
use Rattle.sql_rows.proofs.HubTables.{all_same, same_in, stays_numbered}
use Rattle.sql_rows.proofs.StoreLemmas.{IfDone, Means, MeansBy}

some_changed : (n : ℕ) → nat_lt 0 (suc n) ≡ true
some_changed n = grind (arith, nat_tests)

module _ {T : Type 0} (at : ℕ) (s : TypedTable T) (is : IsTypedTable hub_schema hub_good at s) (sql : List ℕ) where
  -- a put, after which the number of our schema is as it was
  pub puts_as : (m : ℕ) (form : IsPutForm s m) → IsWrite sql (put_command at s.table.tree (length s.parts) m) → (t : T) → ((old new : Trees) → IsPutIn s t old new → IsNumbered old → IsNumbered new) → Means sql (s.row t) (IsPutIn s t)
  puts_as m form text t numbered = record {
    command = put_command at s.table.tree (length s.parts) m;
    is = text.0;
    plain = text.1;
    writes = tt;
    does = λ limit st db words tally after has kept obeys h.
        let d = does_put hub_schema hub_good at s is m form t limit st db words tally after has kept obeys h in
        let are_typed = put_typed hub_schema hub_good at s is db.trees after.trees t kept d.0 in (
          d.1,
          are_typed,
          λ sound.
              let edit : IsPutIn s t db.trees after.trees = record { rows = put_means hub_schema hub_good at s is db.trees after.trees t kept obeys are_typed sound d.0; frame = d.0.frame } in
              (edit, numbered db.trees after.trees edit),
        );
  }

  -- an update of the row with the key, if there is one
  pub updates_as : (m : ℕ) (form : IsUpdateForm s m) → IsWrite sql (update_command at s.table.tree (length s.parts) m) → (t : T) → ((old new : Trees) → IsPutIn s t old new → IsNumbered old → IsNumbered new)
      → MeansBy sql (s.row t) (λ n. IfDone (IsPutIn s t) (nat_lt 0 n))
  updates_as m form text t numbered = record {
    command = update_command at s.table.tree (length s.parts) m;
    is = text.0;
    plain = text.1;
    writes = tt;
    does = λ limit st db words tally after has kept obeys h.
        let d = does_update hub_schema hub_good at s is m form t limit st db words tally after has kept obeys h in
        let it = go (unwrap_or tally.rows 0) db.trees after.trees kept obeys d.0 in (d.1, it.0, it.1);
  }
    where
      go : (n : ℕ) (old new : Trees) → AreTyped hub_schema hub_good old → Obeys hub_schema old → Updates hub_schema s n old new t
          → AreTyped hub_schema hub_good new × (Obeys hub_schema new → IfDone (IsPutIn s t) (nat_lt 0 n) old new × (IsNumbered old → IsNumbered new))
      go zero old new kept obeys same = (same_typed hub_schema hub_good at s is old new kept same, λ sound. (same, stays_numbered old new (all_same metas old new (inl refl) same)))
      go (suc n) old new kept obeys puts =
          let are_typed = put_typed hub_schema hub_good at s is old new t kept puts in (
            are_typed,
            λ sound.
                let edit : IsPutIn s t old new = record { rows = put_means hub_schema hub_good at s is old new t kept obeys are_typed sound puts; frame = puts.frame } in
                (subst (λ b. IfDone (IsPutIn s t) b old new) (sym (some_changed n)) edit, numbered old new edit),
          )

  -- in a table other than hub_meta
  module _ (other : 0 ≡ s.table.tree → ⊥) where
    still_numbered : (old new : Trees) → Spares hub_schema s.table.tree old new → IsNumbered old → IsNumbered new
    still_numbered old new frame = stays_numbered old new (same_in metas s.table.tree old new (inl refl) frame other)

    pub puts : (m : ℕ) (form : IsPutForm s m) → IsWrite sql (put_command at s.table.tree (length s.parts) m) → (t : T) → Means sql (s.row t) (IsPutIn s t)
    puts m form text t = puts_as m form text t (λ old new put. still_numbered old new put.frame)

    pub updates : (m : ℕ) (form : IsUpdateForm s m) → IsWrite sql (update_command at s.table.tree (length s.parts) m) → (t : T) → MeansBy sql (s.row t) (λ n. IfDone (IsPutIn s t) (nat_lt 0 n))
    updates m form text t = updates_as m form text t (λ old new put. still_numbered old new put.frame)

    pub adds : (m : ℕ) (form : IsPutForm s m) → IsWrite sql (add_command at (length s.parts + m)) → (t : T) → Means sql (s.row t) (IsPutIn s t)
    adds m form text t = record {
      command = add_command at (length s.parts + m);
      is = text.0;
      plain = text.1;
      writes = tt;
      does = λ limit st db words tally after has kept obeys h.
          let d = does_add hub_schema hub_good at s is t m form limit st db words tally after has kept obeys h in
          let are_typed = put_typed hub_schema hub_good at s is db.trees after.trees t kept d.0 in (
            d.1,
            are_typed,
            λ sound. (
              record { rows = put_means hub_schema hub_good at s is db.trees after.trees t kept obeys are_typed sound d.0; frame = d.0.frame },
              still_numbered db.trees after.trees d.0.frame,
            ),
          );
    }

    pub drops : (wanted : List Term) (params : Row) (p : T → Bool) → IsTest s wanted params p → ((olds : List Row) → works hub_schema Enforced 0 s.table.tree olds [] ≡ [])
        → IsWrite sql (drop_command at s.table.tree wanted) → Means sql params (IsDropped s p)
    drops wanted params p test frees text = record {
      command = drop_command at s.table.tree wanted;
      is = text.0;
      plain = text.1;
      writes = tt;
      does = λ limit st db words tally after has kept obeys h.
          let d = does_drop hub_schema hub_good at s is wanted params p test frees limit st db words tally after has kept h in
          let are_typed = drop_typed hub_schema hub_good at s is db.trees after.trees p kept d.0 in (
            d.1,
            are_typed,
            λ sound. (
              record { rows = drop_means hub_schema hub_good at s is db.trees after.trees p kept obeys are_typed sound d.0.inside; frame = d.0.frame },
              still_numbered db.trees after.trees d.0.frame,
            ),
          );
    }
