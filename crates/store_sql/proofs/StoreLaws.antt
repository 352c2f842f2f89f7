-- What the store says of a read, by what the connection says of it.
use Rattle.std.proofs.Common.{◌≡◌, ◌⊎◌, ◌≤◌, ◌∙◌, ℕ, Bool, Option, true, false, IsTrue, Result, Ok, Err, OnOk, IfOk, inl, inr, refl, sym, ap, subst, subst₂, true≢false, arith}
use Rattle.sqlite_trees.specs.Tree.{Trees}
use Rattle.sqlite_trees.specs.declared.store.Store.{Ghosts}
use Rattle.sqlite.specs.Effect.{Database}
use Rattle.sqlite.specs.Held.{Held, state}
use Rattle.sqlite.specs.State.{State, HasCleanDisk}
use Rattle.hub_rows.specs.Failures.{Rose}
use Rattle.hub_rows.specs.Reads.{OnlyReads}
use Rattle.hub_rows.specs.Rows.{Rows}
use Rattle.hub_rows.specs.Stops.{HasOnRecord, IsKept, FindsOld, StaysOnRecord}
use Rattle.hub_rows.specs.WellFormed.{WellFormedRows}
use Rattle.hub_rows.specs.declared.store.StoreFault.{StoreFault}
use Rattle.hub_rows.specs.declared.store.StoreFault.TheVariants.{Failed}
use Rattle.sql_rows.specs.Kept.{Asks, AsksIn, IsServing, IsAsBefore, IsAsBeforeOrUndone, IsUncommitted, IsUndone, LeavesAll, Rests, CommitsNothing, changes_in}
use Rattle.sql_rows.specs.Opening.{IsOurs}
use Rattle.sql_rows.specs.TypedTables.{rows_of}
use Rattle.sql_rows.proofs.StoreLemmas.{serves_as}
use Rattle.store_sql.specs.Store.{HoldsAll, KeepsIfOurs, Keeps, SqlView, sql_rows, sql_view, IsCleanSql}
use Rattle.store_sql.proofs.StopLaws.{IsDisk, IsKeeping, last_rows, has_last, record_is, was_clean}

-- ---- what is kept

either : {A E : Type 0} (old new : State) (r : Result A E) → LeavesAll old new r → IsAsBeforeOrUndone old new
either old new (Ok x) same = inl same
either old new (Err e) it = it

pub keeps_still : {n w : ℕ} {lost : Bool} {A E : Type 0} (taken old new : State) → KeepsIfOurs taken old n w lost → (r : Result A E) → Rests old new r → KeepsIfOurs taken new n w lost
keeps_still taken old new keeps r rests ours up = elim (either old new r (rests (λ up. (keeps ours up).serves) up)) [
  | inl same ↦
      let was = keeps ours same.was_open in
      record {
        serves = same.serves;
        now = λ kept. subst (λ (d : Database). WellFormedRows (rows_of d.trees)) (sym same.now) (was.now kept);
        last = subst (λ (d : Database). WellFormedRows (rows_of d.trees)) (sym same.committed) was.last;
        counted = was.counted ∙ sym (ap (λ (d : Database). changes_in d.trees) same.committed);
        rested = λ kept none. same.mode ∙ was.rested kept none;
      }
  | inr it ↦
      let was = keeps ours it.was_open in
      record {
        serves = it.serves;
        now = λ kept. subst (λ (d : Database). WellFormedRows (rows_of d.trees)) (sym it.now) was.last;
        last = subst (λ (d : Database). WellFormedRows (rows_of d.trees)) (sym it.committed) was.last;
        counted = was.counted ∙ sym (ap (λ (d : Database). changes_in d.trees) it.committed);
        rested = λ kept none. it.ended;
      }
]

-- ---- a limit of steps

-- a connection whose limit alone is another
abbrev limited : {S : Type 0} → Held S → Option ℕ → Held S
limited conn limit = record conn { step_limit = limit }

pub keeps_limited : {S : Type 0} (g : Ghosts S) (taken old new : Held S) (n w : ℕ) (lost : Bool) (limit : Option ℕ) → KeepsIfOurs (state g taken) (state g old) n w lost → new ≡ limited old limit → KeepsIfOurs (state g taken) (state g new) n w lost
keeps_limited g taken old new n w lost limit keeps is = subst (λ h. KeepsIfOurs (state g taken) (state g h) n w lost) (sym is) (λ ours up.
    let was = keeps ours up in
    record { serves = serves_as (state g old) (state g (limited old limit)) was.serves refl refl refl; now = was.now; last = was.last; counted = was.counted; rested = was.rested })

module _ {S : Type 0} (g : Ghosts S) (s : SqlView S) (limit : Option ℕ) where
  abbrev over_limited : SqlView S
  over_limited = record s { conn = limited s.conn limit }

  limited_clean : IsCleanSql g s → IsCleanSql g over_limited
  limited_clean clean = record { ours = clean.ours; up = clean.up; good = clean.good; all = record { kept = clean.all.kept; begun = clean.all.begun } }

  unlimited_clean : IsCleanSql g over_limited → IsCleanSql g s
  unlimited_clean clean = record { ours = clean.ours; up = clean.up; good = clean.good; all = record { kept = clean.all.kept; begun = clean.all.begun } }

  limited_kept : IsKept (sql_view g s) → IsKept (sql_view g over_limited)
  limited_kept kept = record { alone = λ r found. let at = kept.alone r found in (limited_clean at.0, at.1); takes = λ clean. kept.takes (unlimited_clean clean) }

  -- what is said of the store that has the connection with that limit
  module _ (new : Held S) (is : new ≡ limited s.conn limit) where
    pub clean_with : IsCleanSql g s → IsCleanSql g (record s { conn = new })
    clean_with clean = subst (λ h. IsCleanSql g (record s { conn = h })) (sym is) (limited_clean clean)

    pub kept_with : IsKept (sql_view g s) → IsKept (sql_view g (record s { conn = new }))
    kept_with kept = subst (λ h. IsKept (sql_view g (record s { conn = h }))) (sym is) (limited_kept kept)

-- ---- a read

uncommitted : {A E : Type 0} (a b : State) (r : Result A E) → CommitsNothing a b r → IsServing a → IsUncommitted a b
uncommitted a b (Ok x) h = λ serves. (h serves).stops
uncommitted a b (Err e) h = h

module _ {S : Type 0} (g : Ghosts S) (disk : IsDisk g) (inside : SqlView S) (keeps : IsKeeping g inside) (conn : Held S) (n : ℕ) {A : Type 0} (result : Result A StoreFault)
    (rests : Rests (state g inside.conn) (state g conn) result) (stops : CommitsNothing (state g inside.conn) (state g conn) result) where
  -- the store after the read
  abbrev after : SqlView S
  after = record inside { conn = conn; failures = n }

  serving : IsOurs (state g inside.taken) → IsServing (state g inside.conn)
  serving ours up = (keeps ours up).serves

  -- where it is clean, it is as before
  as_before : IsCleanSql g after → IsAsBefore (state g inside.conn) (state g conn)
  as_before clean = elim (either (state g inside.conn) (state g conn) result (rests (serving clean.ours) clean.up)) [
    | inl same ↦ same
    | inr it ↦ absurd (elim clean.all.begun [
      | inl none ↦ true≢false (sym it.begun ∙ (keeps clean.ours it.was_open).rested clean.all.kept none)
      | inr begun ↦ true≢false (sym begun ∙ it.ended)
    ])
  ]

  clean_before : IsCleanSql g after → IsCleanSql g inside
  clean_before clean =
      let same = as_before clean in
      record {
        ours = clean.ours;
        up = same.was_open;
        good = (keeps clean.ours same.was_open).now clean.all.kept;
        all = record { kept = clean.all.kept; begun = elim clean.all.begun [ inl none ↦ inl none | inr begun ↦ inr (sym same.mode ∙ begun) ] };
      }

  clean_after : IsCleanSql g inside → IsTrue (state g conn).is_open → IsAsBefore (state g inside.conn) (state g conn) → IsCleanSql g after
  clean_after clean up same = record {
    ours = clean.ours;
    up = up;
    good = subst (λ (d : Database). WellFormedRows (rows_of d.trees)) (sym same.now) clean.good;
    all = record { kept = clean.all.kept; begun = elim clean.all.begun [ inl none ↦ inl none | inr begun ↦ inr (same.mode ∙ begun) ] };
  }

  sure_before : IsServing (state g inside.conn) → HasCleanDisk (state g conn) → HasCleanDisk (state g inside.conn)
  sure_before serves sure =
      let doubts = (uncommitted (state g inside.conn) (state g conn) result stops serves).clean in
      omega (arith, doubts, sure)

  clean_at : (on_record : Rows) → HasOnRecord on_record (sql_view g inside) → HasCleanDisk (state g conn) → IsCleanSql g inside
  clean_at on_record was sure = was_clean g disk inside on_record was (λ shut. sure_before (λ up. absurd (true≢false (sym up ∙ shut))) sure)

  read_stopped : FindsOld (sql_view g inside) (sql_view g after)
  read_stopped on_record was r found =
      let old = clean_at on_record was found.0 in
      let it = uncommitted (state g inside.conn) (state g conn) result stops (serving old.ours) in
      (old.ours, (was.alone r (sure_before (serving old.ours) found.0, found.1, it.leaves old.up found.0 found.1 found.2, found.3)).1)

  read_stays : OnOk result (StaysOnRecord (sql_view g inside) (sql_view g after))
  read_stays = go result rests stops
    where
      go : (q : Result A StoreFault) → Rests (state g inside.conn) (state g conn) q → CommitsNothing (state g inside.conn) (state g conn) q → OnOk q (StaysOnRecord (sql_view g inside) (sql_view g after))
      go (Ok x) rests h = λ on_record was. has_last g disk after on_record
          (λ sure.
          let old = clean_at on_record was sure in
          let up = (h (serving old.ours)).up old.up sure in
          clean_after old up (rests (serving old.ours) up))
          (λ clean. let same = as_before clean in ap (λ (d : Database). rows_of d.trees) same.committed ∙ record_is g disk inside on_record was same.was_open)
      go (Err e) rests h = tt

  pub only_reads : (result ≡ Err Failed → Rose inside.failures n) → inside.failures ≤ n → OnlyReads (sql_view g) inside after result
  only_reads failed count = record {
    was_clean = clean_before;
    kept = λ clean. ap (λ (d : Database). rows_of d.trees) (as_before clean).now;
    failed = failed;
    count = count;
    stopped = read_stopped;
    stays = read_stays;
  }

-- a look-up of the connection is a read of the store
pub reads : {S T : Type 0} (g : Ghosts S) {inside old new : SqlView S} {conn : Held S} {done result : Result T StoreFault} {P : Trees → T → Type 0} → IsDisk g → inside ≡ old → IsKeeping g inside → AsksIn (state g inside.conn) (state g conn) done P
    → new ≡ record inside { conn = conn; failures = new.failures } → result ≡ done → (done ≡ Err Failed → Rose inside.failures new.failures) → inside.failures ≤ new.failures → OnlyReads (sql_view g) old new result
reads g {inside} {old} {new} {conn} {done} {result} disk view_is keeps asks rest same failed count =
    let it = only_reads g disk inside keeps conn new.failures done asks.same asks.stops failed count in
    subst (λ r. OnlyReads (sql_view g) old new r) (sym same) (subst₂ (λ o m. OnlyReads (sql_view g) o m done) view_is (sym rest) it)

-- and its answer is that of the store
pub finds : {S T : Type 0} (g : Ghosts S) {inside old new : SqlView S} {conn : Held S} {done result : Result T StoreFault} (P : Rows → T → Type 0) → inside ≡ old → IsKeeping g inside → Asks (state g inside.conn) (state g conn) done P
    → new ≡ record inside { conn = conn; failures = new.failures } → result ≡ done → IsCleanSql g new → IfOk result (P (sql_rows g old))
finds g {inside} {old} {new} {conn} {done} {result} P view_is keeps asks rest same clean =
    let it : IsCleanSql g (record inside { conn = conn; failures = new.failures }) = subst (IsCleanSql g) rest clean in
    subst₂ (λ o r. IfOk r (P (sql_rows g o))) view_is (sym same) (asks.found (λ up. (keeps it.ours up).serves) it.up)
