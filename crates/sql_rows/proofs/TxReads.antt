-- What a SELECT answers inside a transaction.
use Rattle.std.proofs.Common.{◌≡◌, ◌⊎◌, ℕ, List, Bool, true, Option, Some, None, Ok, Err, Result, IsTrue, IfOk, IfErr, [], map, filter, sym, ap, ◌∙◌, subst, inl, inr}
use Rattle.sqlite_value.specs.declared.value.Value.TheVariants.{Null}
use Rattle.sqlite_value.specs.Order.{Row}
use Rattle.sqlite_trees.specs.Tree.{Trees}
use Rattle.sqlite_sql.specs.Query.{Query, inner, end, IsAnswer}
use Rattle.sqlite_sql.specs.Program.{overlay}
use Rattle.sqlite_schema.specs.declared.command.Returning.{Returning}
use Rattle.sqlite_schema.specs.declared.command.Command.TheVariants.{Select}
use Rattle.sqlite_schema.specs.Rules.{Obeys}
use Rattle.sqlite.specs.declared.error.Error.{Error}
use Rattle.sqlite.specs.declared.transaction.Transaction.{Transaction}
use Rattle.sqlite.specs.Clock.{timed}
use Rattle.sqlite.specs.Effect.{Database, IsDatabase}
use Rattle.sqlite.specs.Held.{state}
use Rattle.sqlite.specs.Listing.{understood}
use Rattle.sqlite.specs.State.{State, HasCleanDisk, Survives, Shown, ShowsRows, FailsToQuery, FailsToShow, IsNotRun, IsTooLate, IsUnchanged}
use Rattle.sqlite.specs.Store.{Ghosts}
use Rattle.sqlite.proofs.Callers.{IsPlain, reads_as}
use Rattle.hub_rows.specs.Keyed.{put_all}
use Rattle.sql_tables.specs.Tables.{hub_schema}
use Rattle.sql_tables.specs.Forms.{any_query, plain_query}
use Rattle.sql_tables.specs.Meanings.{IsRead}
use Rattle.sql_rows.specs.TypedTable.{TypedTable, cmp, rows_in, AreTyped}
use Rattle.sql_rows.specs.TypedTables.{hub_good}
use Rattle.sql_rows.specs.Kept.{Within, IsAny, IsInside, IsNumbered, IsSame, Goes, ShowsAnyInside, ShowsInside}
use Rattle.sql_rows.proofs.ReadLaws.{lists_those}
use Rattle.sql_rows.proofs.AnyLaws.{any_is}
use Rattle.sql_rows.proofs.Selects.{ReadsAny, ReadsRows}
use Rattle.sql_rows.proofs.StoreLemmas.{shown_unchanged, shown_was, failed_was}

-- ---- of a text that may mean anything

module _ (sql : List ℕ) (params : Row) (old new : State) where
  -- it found the connection open, and committed nothing
  abbrev pub CommitsNothing : Type 0
  CommitsNothing = IsTrue old.is_open × (new.committed ≡ old.committed)

  pub shown_nothing : old.in_transaction ≡ true → (rows : List Row) → Shown sql params old new rows → CommitsNothing
  unfolding Shown
  shown_nothing inside rows h = go h.0.returning h.2
    where
      go : (o : Option Returning) → ShowsRows old new sql h.0 (timed params h.0.formats h.1.now) rows o → CommitsNothing
      go None it = (it.3.0.was_open, it.3.0.committed_is)
      go (Some what) it = let last = it.1.shown.committed_is in (it.1.shown.was_open, rw inside at last)

  pub failed_nothing : old.in_transaction ≡ true → (e : Error) → IsTrue new.is_open → FailsToQuery sql params old new e → CommitsNothing
  unfolding FailsToQuery IsNotRun
  failed_nothing inside e up (inl (inl refused)) = (refused.1.0.was_open, refused.1.0.committed_is)
  failed_nothing inside e up (inl (inr failed)) = (failed.3.was_open up, (failed.3.undone up).1)
  failed_nothing inside e up (inr h) = go h.0.returning h.2
    where
      go : (o : Option Returning) → FailsToShow old new sql h.0 (timed params h.0.formats h.1.now) e o → CommitsNothing
      go None it = (it.3.0.was_open, it.3.0.committed_is)
      go (Some what) (inl refused) = (refused.1.0.was_open, refused.1.0.committed_is)
      go (Some what) (inr failed) = (failed.3.was_open up, (failed.3.undone up).1)

  pub late_nothing : (e : Error) → IsTooLate sql params old new e → CommitsNothing
  late_nothing e h = (h.5.0.was_open, h.5.0.committed_is)

  pub asks_nothing : {V : Type 0} (items : V → List Row) (r : Result V Error) → old.in_transaction ≡ true → IsTrue new.is_open → IfOk r (λ v. Shown sql params old new (items v))
      → IfErr r (λ e. FailsToQuery sql params old new e ⊎ IsTooLate sql params old new e) → CommitsNothing
  asks_nothing items (Ok v) inside up ok err = shown_nothing inside (items v) ok
  asks_nothing items (Err e) inside up ok err = elim err [ inl failed ↦ failed_nothing inside e up failed | inr late ↦ late_nothing e late ]

-- ---- of a plain text

-- a text that changes nothing leaves the transaction as it was
within_still : (old new : State) → IsUnchanged old new → IsInside old → Within new
within_still old new same h =
    let was = h same.0.was_open in
    record {
      schema = ap (λ (d : Database). d.schema) same.0.now_is ∙ was.schema;
      sound = subst IsDatabase (sym same.0.now_is) was.sound;
      rows = subst (λ (d : Database). AreTyped hub_schema hub_good d.trees) (sym same.0.now_is) was.rows;
      mode = same.0.mode ∙ was.mode;
    }

module _ (sql : List ℕ) (body : Query) (names : List (List ℕ)) (text : IsRead sql body names) (params : Row) {V : Type 0} (items : V → List Row) (old new : State) (values : Row) (survives : Survives old new (λ _. ⊥)) (given : values ≡ params)
    (clean : IsTrue new.is_open → HasCleanDisk new) (h : IsInside old) where
  -- what its answers are
  answers : (Holds : Trees → List Row → Type 0) → ((db : Trees) → AreTyped hub_schema hub_good db → Obeys hub_schema db → (rows : List Row) → IsAnswer body (overlay db []) params rows → Holds db rows)
      → (r : Result V Error) → (HasCleanDisk new → IfOk r (λ v. Shown sql values old new (items v))) → IsTrue new.is_open → IfOk r (λ v. Holds old.now.trees (items v))
  answers Holds holds (Ok v) ok up =
      let there : Shown sql params old new (items v) = subst (λ q. Shown sql q old new (items v)) given (ok (clean up)) in
      let was = h (shown_was sql params old new (items v) there) in
      let read = reads_as sql params old new hub_schema was.schema (Select (record { lets = []; body = body }) names) text.0 text.1 text.2 (items v) there in
      let obeys : Obeys hub_schema old.now.trees = rw was.schema at was.sound.obeys in
      holds old.now.trees was.rows obeys (items v) (read.answer Null)
  answers Holds holds (Err e) ok up = tt

  -- it changes nothing
  goes_still : (r : Result V Error) → (HasCleanDisk new → IfOk r (λ v. Shown sql values old new (items v))) → (HasCleanDisk new → IfErr r (λ e. FailsToQuery sql values old new e ⊎ IsTooLate sql values old new e)) → Goes IsSame old new r
  goes_still (Ok v) ok err =
      let same : HasCleanDisk new → IsUnchanged old new = λ sure.
      let up = shown_was sql values old new (items v) (ok sure) in
      shown_unchanged sql values old new (items v) (subst (λ z. IsPlain (understood z sql)) (sym (h up).schema) text.1) (ok sure) in
      record {
        ok = record {
          leaves = record { was_open = λ up. (same (clean up)).0.was_open; committed = λ up. (same (clean up)).0.committed_is; survives = survives };
          within = λ up. within_still old new (same (clean up)) h;
          edit = λ up. ap (λ (d : Database). d.trees) (same (clean up)).0.now_is;
          numbered = λ up was. subst (λ (d : Database). IsNumbered d.trees) (sym (same (clean up)).0.now_is) was;
          still = λ up sure. (same sure).0.is_open;
        };
        err = tt;
      }
  goes_still (Err e) ok err =
      let nothing : IsTrue new.is_open → CommitsNothing sql values old new = λ up. elim (err (clean up)) [
        | inl failed ↦ failed_nothing sql values old new (h (failed_was sql values old new e up failed)).mode e up failed
        | inr late ↦ late_nothing sql values old new e late
      ] in
      record { ok = tt; err = record { was_open = λ up. (nothing up).0; committed = λ up. (nothing up).1; survives = survives } }

pub shows_inside : {T : Type 0} {sql : List ℕ} {params : Row} {s : TypedTable T} {p : T → Bool} → ReadsRows sql params s p
    → {V S : Type 0} {g : Ghosts S} {items : V → List Row} {old new : Transaction S} {values : Row} {r : Result V Error} → new.conn.ghost_name ≡ old.conn.ghost_name → (HasCleanDisk (state g new.conn.now) → IfOk r (λ v. Shown sql values (state g old.conn.now) (state g new.conn.now) (items v)))
    → (HasCleanDisk (state g new.conn.now) → IfErr r (λ e. FailsToQuery sql values (state g old.conn.now) (state g new.conn.now) e ⊎ IsTooLate sql values (state g old.conn.now) (state g new.conn.now) e)) → Survives (state g old.conn.now) (state g new.conn.now) (λ _. ⊥) → values ≡ params
    → (IsTrue (state g new.conn.now).is_open → HasCleanDisk (state g new.conn.now)) → ShowsInside g items s p old new r
shows_inside {T} {sql} {params} {s} {p} f {V} {S} {g} {items} {old} {new} {values} {r} same ok err survives given clean = record {
  same_reference = same;
  ok = λ h. answers sql (plain_query (inner s.table.tree end) f.wanted f.project f.order) f.names f.text params items (state g old.conn.now) (state g new.conn.now) values survives given clean h (λ db rows. put_all (cmp s) (map s.read rows) [] ≡ filter p (rows_in s db))
      (λ db kept obeys rows answer. lists_those hub_schema hub_good f.at s f.is f.wanted params p f.test db kept f.project f.whole f.order obeys rows answer) r ok;
  goes = λ h. goes_still sql (plain_query (inner s.table.tree end) f.wanted f.project f.order) f.names f.text params items (state g old.conn.now) (state g new.conn.now) values survives given clean h r ok err;
}

pub shows_any_inside : {T : Type 0} {sql : List ℕ} {params : Row} {s : TypedTable T} → ReadsAny sql s
    → {V S : Type 0} {g : Ghosts S} {items : V → List Row} {old new : Transaction S} {values : Row} {r : Result V Error} → new.conn.ghost_name ≡ old.conn.ghost_name → (HasCleanDisk (state g new.conn.now) → IfOk r (λ v. Shown sql values (state g old.conn.now) (state g new.conn.now) (items v)))
    → (HasCleanDisk (state g new.conn.now) → IfErr r (λ e. FailsToQuery sql values (state g old.conn.now) (state g new.conn.now) e ⊎ IsTooLate sql values (state g old.conn.now) (state g new.conn.now) e)) → Survives (state g old.conn.now) (state g new.conn.now) (λ _. ⊥) → values ≡ params
    → (IsTrue (state g new.conn.now).is_open → HasCleanDisk (state g new.conn.now)) → ShowsAnyInside g items s old new r
shows_any_inside {T} {sql} {params} {s} f {V} {S} {g} {items} {old} {new} {values} {r} same ok err survives given clean = record {
  same_reference = same;
  ok = λ h. answers sql (any_query s.table.tree f.project) f.names f.text params items (state g old.conn.now) (state g new.conn.now) values survives given clean h (λ db rows. IsAny (rows_in s db) (map s.read rows))
      (λ db kept obeys rows answer. any_is f.at s f.is f.project f.whole params db kept obeys rows answer) r ok;
  goes = λ h. goes_still sql (any_query s.table.tree f.project) f.names f.text params items (state g old.conn.now) (state g new.conn.now) values survives given clean h r ok err;
}
