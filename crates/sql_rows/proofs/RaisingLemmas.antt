-- A database of an earlier form is raised in one transaction: it gets the tables that it lacks, and the number.
use Rattle.std.proofs.Common.{◌≡◌, ◌≤◌, ◌⊎◌, ℕ, List, [], ◌∷◌, ◌++◌, map, true, false, Ok, Err, Result, IsTrue, IfErr, IsErr, OnOk, refl, sym, ap, ◌∙◌, subst, inl, inr, true≢false, arith, nat_lt, zero, suc, ◌+◌, ◌<◌}
use Rattle.std.proofs.lemmas.Bool.Decides.{nat_tests}
use Rattle.std.specs.List.{AllByRecursion}
use Rattle.sqlite_value.specs.Order.{Row}
use Rattle.sqlite_trees.specs.Tree.{Trees, IsTable}
use Rattle.sqlite_trees.specs.View.{doubt}
use Rattle.sqlite_schema.specs.declared.schema.Table.{Table}
use Rattle.sqlite_schema.specs.declared.schema.Schema.{Schema}
use Rattle.sqlite_catalog.specs.Change.{next_tree, KeepsRows}
use Rattle.sqlite.specs.declared.error.Error.{Error}
use Rattle.sqlite.specs.declared.transaction.Transaction.{Transaction}
use Rattle.sqlite.specs.Effect.{Database, IsDatabase}
use Rattle.sqlite.specs.State.{State, HasCleanDisk, Survives, IsRolledBack, Shows, KeepsCounts}
use Rattle.sqlite.specs.Steps.{FailsToCommit}
use Rattle.sqlite.specs.Held.{Held, state}
use Rattle.sqlite.specs.Store.{Ghosts}
use Rattle.sql_tables.specs.Opening.{our_form, tables_at, schema_at}
use Rattle.sql_tables.specs.Tables.{hub_schema, first_tables, second_tables, third_tables, fourth_tables, hub_report, hub_tx_owner, hub_use, hub_meter_value, hub_reader}
use Rattle.hub_rows.specs.Keyed.{put_all}
use Rattle.hub_rows.specs.Rows.{Rows}
use Rattle.hub_rows.specs.WellFormed.{WellFormedRows}
use Rattle.sql_rows.specs.TypedTable.{cmp, rows_in, typed, AreTyped}
use Rattle.sql_rows.specs.TypedTables.{metas, meter_values, hub_good, rows_of}
use Rattle.sql_rows.proofs.StoreLemmas.{serves_at}
use Rattle.sql_rows.specs.Kept.{Leaves, IsInside, IsNumbered, Inside, IsPutIn, our_meta}
use Rattle.sql_rows.specs.Opening.{IsInsideAs, IsInsideWith, HasTables, MakesOurs, Rested, Prepares, rows_at, rows_before, rows_from, trees_at, values_form, IsCut, Holds, IsRaised}
use Rattle.sql_rows.proofs.HubTables.{rest_is}
use Rattle.sql_rows.proofs.MetaTable.{metas_made, number_put}
use Rattle.sqlite_rules.specs.Lists.{Has}
use Rattle.sql_rows.proofs.CreateLemmas.{more_tables}
use Rattle.sql_rows.proofs.TxTables.{on_meter_values}

-- ---- the number of the schema, and all tables

all_kept : (ts : List Table) (rows db : Trees) → KeepsRows ts rows db → AllByRecursion (λ t. IsTable (rows t.tree) × AllByRecursion (hub_good t.tree) (rows t.tree)) ts → AllByRecursion (λ t. IsTable (db t.tree) × AllByRecursion (hub_good t.tree) (db t.tree)) ts
all_kept [] rows db same all = tt
all_kept (t ∷ ts) rows db same all = (subst (λ (l : List Row). IsTable l × AllByRecursion (hub_good t.tree) l) (sym same.0) all.0, all_kept ts rows db same.1 all.1)

pub inside_as : (rows : Trees) (s : State) → AreTyped hub_schema hub_good rows → IsInsideAs rows hub_schema s → IsInside s
inside_as rows s are_typed h up = let w = h up in record { schema = w.schema_is; sound = w.sound; rows = all_kept hub_schema.tables rows s.now.trees w.kept are_typed; mode = w.mode }

-- the number is put
filled : (all : Rows) (a b : State) → IsInsideWith all a → Inside (IsPutIn metas our_meta) a b → IsTrue b.is_open → HasTables all b
filled all a b with_rows done up =
    let was = with_rows (done.leaves.was_open up) in
    let now = done.within up in
    let edit = done.edit up in
    record {
      schema_is = now.schema;
      holds = record {
        whole = subst (λ s. IsDatabase (record { schema = s; trees = b.now.trees })) now.schema now.sound;
        are_typed = now.rows;
        rows = metas_made a.now.trees b.now.trees edit.frame ∙ was.1;
        numbered = number_put a.now.trees b.now.trees edit;
      };
      mode = now.mode;
    }

pub filled_if : (all : Rows) (a b : State) (r : Result ℕ Error) → IsInsideWith all a → OnOk r (Inside (IsPutIn metas our_meta) a b) → OnOk r (IsTrue b.is_open → HasTables all b)
filled_if all a b (Ok n) with_rows done = filled all a b with_rows done
filled_if all a b (Err e) with_rows done = tt

-- an error after a part that commits nothing
pub ours_fails : {S A E : Type 0} {g : Ghosts S} {MayBegin : State → Type 0} {Begins : Rows → State → Type 0} {old new : Transaction S} {r : Result A E} → new.conn.ghost_name ≡ old.conn.ghost_name → (MayBegin (state g old.conn.now) → Leaves (state g old.conn.now) (state g new.conn.now)) → IsErr r
    → MakesOurs g MayBegin Begins old new r
ours_fails {r = Ok x} same leaves failed = absurd cc
ours_fails {r = Err e} same leaves failed = record { same_reference = same; leaves = leaves; has = λ all begins. tt; mode = tt; up = λ sure. tt }

-- the tables of the whole schema have the rows that were there
kept_tables : (ts : List Table) (rows db : Trees) (t : Table) → KeepsRows ts rows db → Has ts t → db t.tree ≡ rows t.tree
kept_tables [] rows db t same none = absurd none
kept_tables (u ∷ ts) rows db t same (inl here) = ap (λ (k : Table). db k.tree) here ∙ same.0 ∙ sym (ap (λ (k : Table). rows k.tree) here)
kept_tables (u ∷ ts) rows db t same (inr later) = kept_tables ts rows db t same.1 later

before_is : (rows db : Trees) → KeepsRows hub_schema.tables rows db → rows_before db ≡ rows_before rows
before_is rows db kept = ap rows_before (rest_is [] rows db (λ t listed apart. kept_tables hub_schema.tables rows db t kept listed))

pub from_is : (n : ℕ) (rows db : Trees) → KeepsRows hub_schema.tables rows db → rows_from n db ≡ rows_from n rows
from_is zero rows db kept = before_is rows db kept
from_is (suc zero) rows db kept = before_is rows db kept
from_is (suc (suc zero)) rows db kept = before_is rows db kept
from_is (suc (suc (suc zero))) rows db kept = before_is rows db kept
from_is (suc (suc (suc (suc zero)))) rows db kept = before_is rows db kept
from_is (suc (suc (suc (suc (suc n))))) rows db kept = ap rows_of (rest_is [] rows db (λ t listed apart. kept_tables hub_schema.tables rows db t kept listed))

-- of a form without meter values
pub from_before : (n : ℕ) → n < values_form → (db : Trees) → rows_from n db ≡ rows_before db
from_before zero earlier db = refl
from_before (suc zero) earlier db = refl
from_before (suc (suc zero)) earlier db = refl
from_before (suc (suc (suc zero))) earlier db = refl
from_before (suc (suc (suc (suc zero)))) earlier db = refl
from_before (suc (suc (suc (suc (suc n))))) earlier db = absurd (omega (arith, earlier))

-- of one that has them
pub from_values : (n : ℕ) → (n < values_form → ⊥) → (db : Trees) → rows_from n db ≡ rows_of db
from_values zero later db = absurd (later (omega arith))
from_values (suc zero) later db = absurd (later (omega arith))
from_values (suc (suc zero)) later db = absurd (later (omega arith))
from_values (suc (suc (suc zero))) later db = absurd (later (omega arith))
from_values (suc (suc (suc (suc zero)))) later db = absurd (later (omega arith))
from_values (suc (suc (suc (suc (suc n))))) later db = refl

pub no_values : (rows db : Trees) → KeepsRows hub_schema.tables rows db → rows meter_values.table.tree ≡ [] → rows_in meter_values db ≡ []
no_values rows db kept none = ap (λ (l : List Row). put_all (cmp meter_values) (map (typed meter_values) l) []) (kept_tables hub_schema.tables rows db hub_meter_value kept on_meter_values.listed ∙ none)

-- ---- the rows of a form

abbrev IsTypedAt : ℕ → Trees → Table → Type 0
IsTypedAt n db t = IsTable (trees_at n db t.tree) × AllByRecursion (hub_good t.tree) (trees_at n db t.tree)

-- the tables that schemas 4 and 5 have beside those of schema 3
since_third : (n : ℕ) (db : Trees) → AllByRecursion (IsTypedAt n db) third_tables.tables → IsTypedAt n db hub_meter_value → IsTypedAt n db hub_reader → AllByRecursion (IsTypedAt n db) hub_schema.tables
since_third n db typed values readers = more_tables (IsTypedAt n db) fourth_tables.tables hub_reader (more_tables (IsTypedAt n db) third_tables.tables hub_meter_value typed values) readers

pub typed_at : (n : ℕ) → n < our_form → (db : Trees) → AreTyped (schema_at n) hub_good db → AreTyped hub_schema hub_good (trees_at n db)
typed_at zero earlier db are_typed = ((tt, tt), ((tt, tt), ((tt, tt), ((tt, tt), ((tt, tt), ((tt, tt), ((tt, tt), ((tt, tt), ((tt, tt), ((tt, tt), ((tt, tt), ((tt, tt), ((tt, tt), ((tt, tt), ((tt, tt), tt)))))))))))))))
typed_at (suc zero) earlier db are_typed = since_third 1 db
    (more_tables (IsTypedAt 1 db) (second_tables.tables ++ hub_tx_owner ∷ []) hub_use
    (more_tables (IsTypedAt 1 db) second_tables.tables hub_tx_owner (more_tables (IsTypedAt 1 db) first_tables.tables hub_report are_typed (tt, tt)) (tt, tt)) (tt, tt)) (tt, tt) (tt, tt)
typed_at (suc (suc zero)) earlier db are_typed = since_third 2 db
    (more_tables (IsTypedAt 2 db) (second_tables.tables ++ hub_tx_owner ∷ []) hub_use (more_tables (IsTypedAt 2 db) second_tables.tables hub_tx_owner are_typed (tt, tt)) (tt, tt)) (tt, tt) (tt, tt)
typed_at (suc (suc (suc zero))) earlier db are_typed = since_third 3 db are_typed (tt, tt) (tt, tt)
typed_at (suc (suc (suc (suc zero)))) earlier db are_typed = since_third 4 db are_typed (tt, tt) (tt, tt)
typed_at (suc (suc (suc (suc (suc zero))))) earlier db are_typed = more_tables (IsTypedAt 5 db) fourth_tables.tables hub_reader are_typed (tt, tt)
typed_at (suc (suc (suc (suc (suc (suc n)))))) earlier db are_typed = absurd (omega (arith, earlier))

pub rows_at_is : (n : ℕ) → n < our_form → (db : Trees) → rows_from n (trees_at n db) ≡ rows_at n db
rows_at_is zero earlier db = refl
rows_at_is (suc zero) earlier db = refl
rows_at_is (suc (suc zero)) earlier db = refl
rows_at_is (suc (suc (suc zero))) earlier db = refl
rows_at_is (suc (suc (suc (suc zero)))) earlier db = refl
rows_at_is (suc (suc (suc (suc (suc zero))))) earlier db = refl
rows_at_is (suc (suc (suc (suc (suc (suc n)))))) earlier db = absurd (omega (arith, earlier))

kept_at : (n : ℕ) → n < our_form → (db : Trees) → KeepsRows (schema_at n).tables (trees_at n db) db
kept_at zero earlier db = tt
kept_at (suc zero) earlier db = (refl, (refl, (refl, (refl, (refl, (refl, (refl, (refl, (refl, (refl, tt))))))))))
kept_at (suc (suc zero)) earlier db = (refl, (refl, (refl, (refl, (refl, (refl, (refl, (refl, (refl, (refl, (refl, tt)))))))))))
kept_at (suc (suc (suc zero))) earlier db = (refl, (refl, (refl, (refl, (refl, (refl, (refl, (refl, (refl, (refl, (refl, (refl, (refl, tt)))))))))))))
kept_at (suc (suc (suc (suc zero)))) earlier db = (refl, (refl, (refl, (refl, (refl, (refl, (refl, (refl, (refl, (refl, (refl, (refl, (refl, tt)))))))))))))
kept_at (suc (suc (suc (suc (suc zero))))) earlier db = (refl, (refl, (refl, (refl, (refl, (refl, (refl, (refl, (refl, (refl, (refl, (refl, (refl, (refl, tt))))))))))))))
kept_at (suc (suc (suc (suc (suc (suc n)))))) earlier db = absurd (omega (arith, earlier))

not_below : (t k : ℕ) → k ≤ t → nat_lt t k ≡ false
not_below t k over = grind (arith, nat_tests)

pub cut_at : (n : ℕ) (db : Trees) → IsCut n (trees_at n db)
cut_at n db t over = rw (not_below t (next_tree (tables_at n)) over) refl

-- there is no meter value yet
pub cut_values : (n : ℕ) → n < values_form → (rows : Trees) → IsCut n rows → rows meter_values.table.tree ≡ []
cut_values zero earlier rows cut = cut 26 (omega arith)
cut_values (suc zero) earlier rows cut = cut 26 (omega arith)
cut_values (suc (suc zero)) earlier rows cut = cut 26 (omega arith)
cut_values (suc (suc (suc zero))) earlier rows cut = cut 26 (omega arith)
cut_values (suc (suc (suc (suc zero)))) earlier rows cut = cut 26 (omega arith)
cut_values (suc (suc (suc (suc (suc n))))) earlier rows cut = absurd (omega (arith, earlier))

pub cut_later : (n : ℕ) → n < our_form → (rows : Trees) → IsCut n rows → IsCut (n + 1) rows
cut_later zero earlier rows cut t over = cut t (omega arith)
cut_later (suc zero) earlier rows cut t over = cut t (omega (arith, over))
cut_later (suc (suc zero)) earlier rows cut t over = cut t (omega (arith, over))
cut_later (suc (suc (suc zero))) earlier rows cut t over = cut t (omega (arith, over))
cut_later (suc (suc (suc (suc zero)))) earlier rows cut t over = cut t (omega (arith, over))
cut_later (suc (suc (suc (suc (suc zero))))) earlier rows cut t over = cut t (omega (arith, over))
cut_later (suc (suc (suc (suc (suc (suc n)))))) earlier rows cut t over = absurd (omega (arith, earlier))

-- ---- the ends

pub begun_as : {S : Type 0} (g : Ghosts S) (old tx : Held S) (n : ℕ) → n < our_form → tx ≡ record old { in_transaction = true } → Rested (state g old) → (IsTrue (state g old).is_open → (state g old).now.schema ≡ schema_at n)
    → IsInsideAs (trees_at n (state g old).now.trees) (schema_at n) (state g tx)
begun_as g old tx n earlier begun rested was =
    subst (λ k. IsInsideAs (trees_at n (state g old).now.trees) (schema_at n) (state g k)) (sym begun) (λ up. record { schema_is = was up; sound = rested.sound up; kept = kept_at n earlier (state g old).now.trees; mode = refl })

module _ {S : Type 0} (g : Ghosts S) (old tx mid end : Held S) (n : ℕ) (lower : n < our_form) (begun : tx ≡ record old { in_transaction = true }) (rested : Rested (state g old)) (was : IsTrue (state g old).is_open → (state g old).now.schema ≡ schema_at n)
    (clean : IsTrue (state g end).is_open → HasCleanDisk (state g end)) (before : IsTrue (state g old).is_open → (db : Trees) → (state g old).may_leave db → db ≡ (state g old).committed.trees)
    (left : Leaves (state g tx) (state g mid)) where
  abbrev starts : Held S
  starts = record old { in_transaction = true }

  leaves : Leaves (state g starts) (state g mid)
  leaves = subst (λ k. Leaves (state g k) (state g mid)) begun left

  rolled : IsTrue (state g end).is_open → IsRolledBack (state g mid) (state g end) → IsTrue (state g old).is_open × ((state g end).now ≡ (state g old).now)
  rolled up back =
      let mid_open = back.was_open up in
      let was = leaves.was_open mid_open in
      (was, (back.undone up).0 ∙ leaves.committed mid_open ∙ rested.settled was)

  crash_mid : IsTrue (state g old).is_open → HasCleanDisk (state g mid) → (db : Trees) → (state g mid).may_leave db → db ≡ (state g old).committed.trees
  crash_mid up sure db may = elim (leaves.survives.crash sure db may) [ inl was ↦ before up db was | inr none ↦ absurd none ]

  pub drops_raise : {A E : Type 0} (r : Result A E) → IsErr r → (HasCleanDisk (state g end) → IsRolledBack (state g mid) (state g end)) → Survives (state g mid) (state g end) (λ _. ⊥) → Prepares (state g old) (state g end) r
  drops_raise (Ok x) failed undone survives = absurd cc
  drops_raise (Err e) failed undone survives = record {
    serves = λ ours up. tt;
    taken = λ up. tt;
    refused = λ up. rolled up (undone (clean up));
    crash = λ up sure db may.
        let mid_clean = survives.clean in
        elim (survives.crash sure db may) [ inl was ↦ inl (crash_mid up (omega (arith, mid_clean, sure)) db was) | inr none ↦ absurd none ];
    durable = λ up. tt;
    clean = let left = leaves.survives.clean in let more = survives.clean in omega (arith, left, more);
    up = λ sure. tt;
  }

  pub commits_raise : (r : Result (Unit {0}) Error)
      → (AreTyped hub_schema hub_good (trees_at n (state g old).now.trees) → IsTrue (state g mid).is_open → HasTables (rows_at n (state g old).now.trees) (state g mid))
      → (IsTrue (state g mid).is_open → (state g mid).in_transaction ≡ true) → (HasCleanDisk (state g mid) → IsTrue (state g mid).is_open)
      → (HasCleanDisk (state g end) → OnOk r (IsTrue (state g mid).in_transaction × Shows (state g mid) (state g end) (state g mid).now (state g mid).now false × KeepsCounts (state g mid) (state g end) × ((state g end).marks ≡ [])))
      → (HasCleanDisk (state g end) → IfErr r (FailsToCommit (state g mid) (state g end))) → Survives (state g mid) (state g end) (λ db. db ≡ (state g mid).now.trees)
      → (IsTrue (state g end).is_open → (db : Trees) → (state g end).may_leave db → db ≡ (state g end).committed.trees) → Prepares (state g old) (state g end) r
  commits_raise r has mode mid_up ok err survives after = go r ok err
    where
      tables : AreTyped (schema_at n) hub_good (state g old).now.trees → IsTrue (state g mid).is_open → HasTables (rows_at n (state g old).now.trees) (state g mid)
      tables are_typed up = has (typed_at n lower (state g old).now.trees are_typed) up

      raised : IsTrue (state g mid).is_open → (db : Trees) → db ≡ (state g mid).now.trees → IsRaised (state g old).now db
      raised up db same = record { from = n; earlier = lower; was = was (leaves.was_open up); holds = λ are_typed. subst (Holds (rows_at n (state g old).now.trees)) (sym same) (tables are_typed up).holds }

      crashes : IsTrue (state g old).is_open → HasCleanDisk (state g end) → (db : Trees) → (state g end).may_leave db → (db ≡ (state g old).committed.trees) ⊎ IsRaised (state g old).now db
      crashes up sure db may =
          let mid_clean = survives.clean in
          let mid_sure : HasCleanDisk (state g mid) = omega (arith, mid_clean, sure) in
          elim (survives.crash sure db may) [ inl was ↦ inl (crash_mid up mid_sure db was) | inr done ↦ inr (raised (mid_up mid_sure) db done) ]

      doubts : doubt (state g old).is_clean ≤ doubt (state g end).is_clean
      doubts = let left = leaves.survives.clean in let more = survives.clean in omega (arith, left, more)

      go : (r : Result (Unit {0}) Error)
          → (HasCleanDisk (state g end) → OnOk r (IsTrue (state g mid).in_transaction × Shows (state g mid) (state g end) (state g mid).now (state g mid).now false × KeepsCounts (state g mid) (state g end) × ((state g end).marks ≡ [])))
          → (HasCleanDisk (state g end) → IfErr r (FailsToCommit (state g mid) (state g end))) → Prepares (state g old) (state g end) r
      go (Err e) ok err = record {
        serves = λ ours up. tt;
        taken = λ up. tt;
        refused = λ up. elim (err (clean up)) [ inl fails ↦ rolled up fails.3 | inr over ↦ absurd (true≢false (sym (mode over.2.0.was_open) ∙ over.1)) ];
        crash = crashes;
        durable = λ up. tt;
        clean = doubts;
        up = λ sure. tt;
      }
      go (Ok x) ok err = record {
        serves = λ ours up.
            let shows = (ok (clean up)).1 in
            let it = ours n (was (leaves.was_open shows.was_open)) in
            let h = tables it.typed shows.was_open in (
              serves_at (state g end) (record {
                schema = ap (λ (d : Database). d.schema) shows.now_is ∙ h.schema_is;
                sound = subst IsDatabase (sym shows.now_is) (subst (λ s. IsDatabase (record { schema = s; trees = (state g mid).now.trees })) (sym h.schema_is) h.holds.whole);
                rows = subst (λ (d : Database). AreTyped hub_schema hub_good d.trees) (sym shows.now_is) h.holds.are_typed;
                numbered = subst (λ (d : Database). IsNumbered d.trees) (sym shows.now_is) h.holds.numbered;
              }) (shows.committed_is ∙ sym shows.now_is),
              subst WellFormedRows (sym (ap (λ (d : Database). rows_of d.trees) shows.now_is ∙ h.holds.rows)) it.good,
            );
        taken = λ up. let shows = (ok (clean up)).1 in inr (raised shows.was_open (state g end).now.trees (ap (λ (d : Database). d.trees) shows.now_is));
        refused = λ up. tt;
        crash = crashes;
        durable = λ up db may. let shows = (ok (clean up)).1 in after up db may ∙ ap (λ (d : Database). d.trees) (shows.committed_is ∙ sym shows.now_is);
        clean = doubts;
        up = λ sure. (ok sure).1.is_open;
      }

-- a commit leaves the schema that was made
pub made_as : (rows : Trees) (schema : Schema) (mid end : State) (r : Result (Unit {0}) Error) → IsInsideAs rows schema mid → (IsTrue end.is_open → HasCleanDisk end)
    → (HasCleanDisk end → OnOk r (IsTrue mid.in_transaction × Shows mid end mid.now mid.now false × KeepsCounts mid end × (end.marks ≡ []))) → IsTrue end.is_open → OnOk r (end.now.schema ≡ schema)
made_as rows schema mid end (Ok x) inside clean ok up = let shows = (ok (clean up)).1 in ap (λ (d : Database). d.schema) shows.now_is ∙ (inside shows.was_open).schema_is
made_as rows schema mid end (Err e) inside clean ok up = tt
