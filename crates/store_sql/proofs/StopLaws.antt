-- What a stop of the work leaves of the store, by what a call on the connection says of it.
use Rattle.std.proofs.Common.{◌≡◌, ◌≢◌, ◌≤◌, ◌<◌, ℕ, Bool, true, false, not, IsTrue, Result, Ok, Err, IfOk, refl, sym, ap, ◌∙◌, subst, inl, inr, true≢false, arith}
use Rattle.std.specs.Prelude.{⊤}
use Rattle.std.proofs.Math.Logic.{∥∥₁_elim}
use Rattle.std.proofs.Props.{props}
use Rattle.sqlite_trees.specs.Tree.{Trees}
use Rattle.sqlite_trees.specs.View.{IsClean, IsQuiet, doubt}
use Rattle.sqlite_trees.specs.declared.store.Store.{Ghosts}
use Rattle.sqlite.specs.Effect.{Database}
use Rattle.sqlite.specs.Held.{Held, state}
use Rattle.sqlite.specs.State.{State, HasCleanDisk}
use Rattle.hub_rows.specs.Rows.{Rows}
use Rattle.hub_rows.specs.Stops.{HasOnRecord, IsKept, PutsOnRecord}
use Rattle.hub_rows.specs.WellFormed.{WellFormedRows}
use Rattle.sql_tables.specs.Opening.{our_form, schema_at}
use Rattle.sql_rows.specs.Kept.{IsServing, changes_in}
use Rattle.sql_rows.specs.Opening.{IsOurs, IsSpared, Prepares}
use Rattle.sql_rows.specs.TypedTables.{rows_of}
use Rattle.sql_rows.proofs.OpeningLemmas.{still_prepared}
use Rattle.sql_rows.proofs.StoreLemmas.{open_is_clean}
use Rattle.store_sql.specs.declared.fault.PrepareFault.{PrepareFault}
use Rattle.store_sql.specs.Store.{KeepsIfOurs, SqlView, sql_rows, sql_may_find, sql_view, IsCleanSql}

-- what the disk of a connection promises
pub record IsDisk {S : Type 0} (g : Ghosts S) : Type 0 where
  pub survives : (s : S) → IsClean (g.view s) → ∥ ((db : Trees) × g.recovers s db) ∥₁
  pub shut : (s : S) → (g.view s).is_clean ≡ false → (g.view s).is_open ≡ false
  pub stays : (s : S) → IsTrue (g.view s).is_open → g.recovers s (g.view s).committed
  pub settled : (s : S) (db : Trees) → IsTrue (g.view s).is_open → g.recovers s db → db ≡ (g.view s).committed

module _ {S : Type 0} (g : Ghosts S) where
  abbrev pub IsKeeping : SqlView S → Type 0
  IsKeeping s = KeepsIfOurs (state g s.taken) (state g s.conn) s.changes s.waiting s.lost

  abbrev pub last_rows : SqlView S → Rows
  last_rows s = rows_of (state g s.conn).committed.trees

module _ {S : Type 0} (g : Ghosts S) (disk : IsDisk g) where
  pub finds_last : (s : SqlView S) → IsTrue (state g s.conn).is_open → sql_may_find g s (last_rows g s)
  finds_last s up = (open_is_clean _ _ (disk.shut s.conn.store) up, (state g s.conn).committed.trees, disk.stays s.conn.store up, refl)

  -- A stop leaves something of a clean disk, so a store with rows on record whose disk is clean was open.
  was_open : (s : SqlView S) (on_record : Rows) → HasOnRecord on_record (sql_view g s) → HasCleanDisk (state g s.conn) → IsTrue (state g s.conn).is_open
  was_open s on_record kept sure = ∥∥₁_elim (disk.survives s.conn.store sure) (Prim.hlevel props) (λ it. (kept.alone (rows_of it.0) (sure, it.0, it.1, refl)).0.up)

  -- A store with rows on record is clean, if its disk is clean where its connection is shut.
  pub was_clean : (s : SqlView S) (on_record : Rows) → HasOnRecord on_record (sql_view g s) → ((state g s.conn).is_open ≡ false → HasCleanDisk (state g s.conn)) → IsCleanSql g s
  was_clean s on_record kept sure = go (state g s.conn).is_open refl
    where
      go : (b : Bool) → (state g s.conn).is_open ≡ b → IsCleanSql g s
      go true up = (kept.alone (last_rows g s) (finds_last s up)).0
      go false shut = absurd (true≢false (sym (was_open s on_record kept (sure shut)) ∙ shut))

  -- what an open store has on record is what its last commit left
  pub record_is : (s : SqlView S) (on_record : Rows) → HasOnRecord on_record (sql_view g s) → IsTrue (state g s.conn).is_open → last_rows g s ≡ on_record
  record_is s on_record kept up = (kept.alone (last_rows g s) (finds_last s up)).1

  pub has_last : (s : SqlView S) (on_record : Rows) → (HasCleanDisk (state g s.conn) → IsCleanSql g s) → (IsCleanSql g s → last_rows g s ≡ on_record) → HasOnRecord on_record (sql_view g s)
  has_last s on_record clean is = record {
    alone = λ r found. let it = clean found.0 in (it, found.3 ∙ ap rows_of (disk.settled s.conn.store found.1 it.up found.2) ∙ is it);
    takes = λ it. subst (sql_may_find g s) (is it) (finds_last s it.up);
  }

  -- where no change waits, the last commit left the rows of now
  rested_last : (s : SqlView S) → IsKeeping g s → s.waiting ≡ 0 → IsCleanSql g s → last_rows g s ≡ sql_rows g s
  rested_last s keeps none clean = let it = keeps clean.ours clean.up in ap (λ (d : Database). rows_of d.trees) (it.serves.settled (it.rested clean.all.kept none))

  pub none_waits : (s : SqlView S) → IsKeeping g s → s.waiting ≡ 0 → PutsOnRecord (sql_view g s) (sql_view g s)
  none_waits s keeps none on_record was = has_last s (sql_rows g s) (λ sure. was_clean s on_record was (λ shut. sure)) (rested_last s keeps none)

-- ---- opened

-- a connection that was prepared, on which so many changes are on record
pub keeps_prepared : (taken new : State) (n : ℕ) {A E : Type 0} (x : A) → Prepares {A = A} {E = E} taken new (Ok x) → new.in_transaction ≡ false → (IsOurs taken → IsTrue new.is_open → n ≡ changes_in new.now.trees) → KeepsIfOurs taken new n 0 false
keeps_prepared taken new n x prepared over counted ours up =
    let it = prepared.serves ours up in
    let same = it.0.settled over in
    record {
      serves = it.0;
      now = λ kept. it.1;
      last = subst (λ (d : Database). WellFormedRows (rows_of d.trees)) (sym same) it.1;
      counted = counted ours up ∙ sym (ap (λ (d : Database). changes_in d.trees) same);
      rested = λ kept none. over;
    }

-- the store over it
abbrev pub opened : {S : Type 0} → Held S → Held S → ℕ → SqlView S
opened taken conn n = record { conn = conn; failures = 0; taken = taken; changes = n; waiting = 0; lost = false }

pub opened_clean : {S : Type 0} (g : Ghosts S) (taken conn : Held S) (n : ℕ) → KeepsIfOurs (state g taken) (state g conn) n 0 false → IsOurs (state g taken) → IsTrue (state g conn).is_open → IsCleanSql g (opened taken conn n)
opened_clean g taken conn n keeps ours up = record { ours = ours; up = up; good = (keeps ours up).now refl; all = record { kept = refl; begun = inl refl } }

pub opened_kept : {S : Type 0} (g : Ghosts S) (taken conn : Held S) (n : ℕ) → KeepsIfOurs (state g taken) (state g conn) n 0 false → IsDisk g → {A E : Type 0} (x : A) → Prepares {A = A} {E = E} (state g taken) (state g conn) (Ok x) → IsOurs (state g taken) → IsKept (sql_view g (opened taken conn n))
opened_kept g taken conn n keeps disk x prepared ours =
    has_last g disk (opened taken conn n) (sql_rows g (opened taken conn n)) (λ sure. opened_clean g taken conn n keeps ours (prepared.up sure)) (rested_last g disk (opened taken conn n) keeps refl)

pub over_if : (b : Bool) → not b ≡ true → b ≡ false
over_if true over = absurd (true≢false (sym over))
over_if false over = refl

-- a connection that was prepared, and then asked for the count of changes
pub record Adopts {S : Type 0} (g : Ghosts S) (old new : Held S) (n : ℕ) : Type 0 where
  pub prepared : Prepares {A = ⊤} {E = PrepareFault} (state g old) (state g new) (Ok tt)
  pub keeps : KeepsIfOurs (state g old) (state g new) n 0 false

pub adopts : {S : Type 0} (g : Ghosts S) → IsDisk g → (old mid new : Held S) (n : ℕ) (x : ⊤) → Prepares {A = ⊤} {E = PrepareFault} (state g old) (state g mid) (Ok x) → IsSpared (state g mid) (state g new) → (HasCleanDisk (state g new) → IsTrue (state g new).is_open)
    → (IsServing (state g mid) → IsTrue (state g new).is_open → n ≡ changes_in (state g mid).now.trees) → not new.in_transaction ≡ true → Adopts g old new n
adopts g disk old mid new n x prepares spared up found over = record {
  prepared = prepared;
  keeps = keeps_prepared (state g old) (state g new) n x prepared (over_if new.in_transaction over)
      (λ ours still. found (λ was. (prepares.serves ours was).0) still ∙ sym (ap (λ (d : Database). changes_in d.trees) (spared.now still)));
}
  where
    prepared : Prepares {A = ⊤} {E = PrepareFault} (state g old) (state g new) (Ok tt)
    prepared = still_prepared (state g old) (state g mid) (state g new) x prepares spared up (open_is_clean _ _ (disk.shut new.store))

-- ---- opened again

-- what is so of the connection that was taken over
pub along : {H V E : Type 0} (taken : V → H) (P : H → V → Type 0) (Q : V → Type 0) (r : Result V E) (h : H) → IfOk r (λ s. (taken s ≡ h) × Q s) → IfOk r (P h) → IfOk r (λ s. P (taken s) s)
along taken P Q (Ok s) h is p = subst (λ k. P k s) (sym is.0) p
along taken P Q (Err e) h is p = tt

-- a premise may be said inside
pub under : {P V E : Type 0} (Q : V → Type 0) (r : Result V E) → (P → IfOk r Q) → IfOk r (λ v. P → Q v)
under Q (Ok v) said = said
under Q (Err e) said = tt

module _ {S : Type 0} (g : Ghosts S) (shut : (s : S) → (g.view s).is_clean ≡ false → (g.view s).is_open ≡ false) (store : SqlView S) (rolled found : S) (conn : Held S)
    (quiet : IsQuiet g.view g.faults g.recovers g.is_shielded store.conn.store rolled) (crash_clean : doubt (g.view rolled).is_clean ≤ doubt (g.view found).is_clean)
    (leaves : IsClean (g.view found) → g.recovers rolled (g.view found).committed) (last : (g.view found).trees ≡ (g.view found).committed)
    (over_clean : doubt (g.view found).is_clean ≤ doubt (state g conn).is_clean) (trees : HasCleanDisk (state g conn) → (state g conn).now.trees ≡ (g.view found).trees) (filled : (form : ℕ) → form < our_form → (state g conn).now.schema ≢ schema_at form) where
  -- what is found may be found
  found_at : {A E : Type 0} (x : A) (s : SqlView S) → Prepares {A = A} {E = E} (state g conn) (state g s.conn) (Ok x) → IsTrue (state g s.conn).is_open → sql_may_find g store (sql_rows g s)
  found_at x s prepared up =
      let doubts = prepared.clean in
      let sure_s : HasCleanDisk (state g s.conn) = open_is_clean _ _ (shut s.conn.store) up in
      let sure : HasCleanDisk (state g conn) = omega (arith, doubts, sure_s) in
      let sure_found : IsClean (g.view found) = omega (arith, over_clean, sure) in
      let back = quiet.clean in
      let sure_before : HasCleanDisk (state g store.conn) = omega (arith, back, crash_clean, sure_found) in
      let same : (state g s.conn).now ≡ (state g conn).now = elim (prepared.taken up) [ inl taken ↦ taken.1 | inr raised ↦ absurd (filled raised.from raised.earlier raised.was) ] in
      (sure_before, (g.view found).committed, quiet.outcomes _ (leaves sure_found), ap (λ (d : Database). rows_of d.trees) same ∙ ap rows_of (trees sure ∙ last))

  pub found_then : {A E : Type 0} (F : Type 0) (x : A) (r : Result (SqlView S) E) → IfOk r (λ s. Prepares {A = A} {E = F} (state g conn) (state g s.conn) (Ok x)) → IfOk r (λ s. IsTrue (state g s.conn).is_open → sql_may_find g store (sql_rows g s))
  found_then F x (Ok s) prepared = found_at x s prepared
  found_then F x (Err e) prepared = tt
