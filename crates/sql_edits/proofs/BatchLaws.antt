-- What the texts that begin and end a batch mean.
use Rattle.std.proofs.Common.{◌≡◌, ◌⊎◌, ◌∙◌, ◌≤◌, ℕ, List, [], Bool, true, false, not, Ok, Err, Result, IsTrue, IsOk, IsErr, OnOk, OnErr, ap, inl, inr, refl, subst, sym, true≢false, arith}
use Rattle.sqlite_tied.specs.Compute.{everything}
use Rattle.sqlite_trees.specs.Tree.{Trees}
use Rattle.sqlite_trees.specs.View.{doubt}
use Rattle.sqlite_schema.specs.declared.schema.Schema.{Schema}
use Rattle.sqlite_schema.specs.declared.command.Command.TheVariants.{Begin, Commit, Rollback}
use Rattle.sqlite.specs.declared.error.Error.{Error}
use Rattle.sqlite.specs.Effect.{Database}
use Rattle.sqlite.specs.Listing.{understood}
use Rattle.sqlite.specs.State.{State, HasCleanDisk, Survives, CommitsBy, Executes, Shows}
use Rattle.sqlite.proofs.Callers.{IsPlain, command_of, runs_as}
use Rattle.sql_tables.specs.declared.batches.TheConstants.{BEGIN, COMMIT, ROLLBACK}
use Rattle.hub_rows.specs.Changes.{edit, EditFits}
use Rattle.hub_rows.specs.WellFormed.{WellFormedRows}
use Rattle.hub_rows.specs.declared.change.Edit.{Edit}
use Rattle.sql_rows.specs.Kept.{EditsIn, GoesOn, IsAsBeforeOrUndone, IsHub, IsInBatch, IsMade, IsSame, IsServing, IsUncommitted, IsUndone, LeavesEdit, StaysOpen, Stops}
use Rattle.sql_rows.specs.TypedTables.{rows_of}
use Rattle.sql_rows.proofs.EditLaws.{failed_rests}
use Rattle.sql_rows.proofs.StoreLemmas.{open_after, serves_at, serves_last, uncommitted_after}
use Rattle.sql_edits.specs.Batches.{Adds, Begins, Begun, Commits, CommitsIf, IsCounted, IsRested, KeepsLast, LeavesAdded, LeavesBegun, LeavesCommitted, LeavesRested, Tries, Undoes, same_rows}
use Rattle.sql_edits.specs.Ready.{EditsFitting, IsReady, MayEdit}

-- ---- the texts, over any schema

begin_is : (schema : Schema) → command_of (understood schema BEGIN.now) ≡ Begin
unfolding understood everything
begin_is schema = refl

begin_plain : (schema : Schema) → IsPlain (understood schema BEGIN.now)
unfolding understood everything
begin_plain schema = (refl, refl)

commit_is : (schema : Schema) → command_of (understood schema COMMIT.now) ≡ Commit
unfolding understood everything
commit_is schema = refl

commit_plain : (schema : Schema) → IsPlain (understood schema COMMIT.now)
unfolding understood everything
commit_plain schema = (refl, refl)

rollback_is : (schema : Schema) → command_of (understood schema ROLLBACK.now) ≡ Rollback
unfolding understood everything
rollback_is schema = refl

rollback_plain : (schema : Schema) → IsPlain (understood schema ROLLBACK.now)
unfolding understood everything
rollback_plain schema = (refl, refl)

begin_commits_nothing : (s : State) (db : Trees) → CommitsBy BEGIN.now [] s db → ⊥
unfolding CommitsBy
begin_commits_nothing s db h =
    let bare = subst IsPlain h.1.is (begin_plain s.now.schema) in
    let is : h.0.command ≡ Begin = sym (ap command_of h.1.is) ∙ begin_is s.now.schema in
    elim (rw (is, bare.0) at h.2) [
      | inl it ↦ elim it.0 [ inl commits ↦ let e = commits in cc | inr releases ↦ let e = releases.2 in cc ]
      | inr writes ↦ let e = writes.3 in cc
    ]

rollback_commits_nothing : (s : State) (db : Trees) → CommitsBy ROLLBACK.now [] s db → ⊥
unfolding CommitsBy
rollback_commits_nothing s db h =
    let bare = subst IsPlain h.1.is (rollback_plain s.now.schema) in
    let is : h.0.command ≡ Rollback = sym (ap command_of h.1.is) ∙ rollback_is s.now.schema in
    elim (rw (is, bare.0) at h.2) [
      | inl it ↦ elim it.0 [ inl commits ↦ let e = commits in cc | inr releases ↦ let e = releases.2 in cc ]
      | inr writes ↦ let e = writes.3 in cc
    ]

commit_commits_now : (s : State) (db : Trees) → s.in_transaction ≡ true → CommitsBy COMMIT.now [] s db → db ≡ s.now.trees
unfolding CommitsBy
commit_commits_now s db begun h = elim h.2 [ inl it ↦ it.1 | inr writes ↦ absurd (true≢false (sym begun ∙ writes.0)) ]

-- ---- what they leave

pub not_over : (b : Bool) → not b ≡ false → b ≡ true
not_over true over = refl
not_over false over = absurd (true≢false over)

pub keeps_last : (old new : State) → IsAsBeforeOrUndone old new → KeepsLast old new
keeps_last old new (inl same) = record { was_open = same.was_open; committed = same.committed; serves = same.serves }
keeps_last old new (inr undone) = record { was_open = undone.was_open; committed = undone.committed; serves = undone.serves }

pub uncommitted : (old new : State) (Commits : Trees → Type 0) → ((db : Trees) → Commits db → ⊥) → Survives old new Commits → IsUncommitted old new
uncommitted old new Commits none survives = record { clean = survives.clean; leaves = λ up sure db left. elim (survives.crash sure db left) [ inl was ↦ was | inr commits ↦ absurd (none db commits) ] }

-- the text that begins a batch commits nothing
pub begin_stops : (old new : State) → Survives old new (CommitsBy BEGIN.now [] old) → HasCleanDisk new → (db : Trees) → new.may_leave db → old.may_leave db
begin_stops old new survives sure db may = elim (survives.crash sure db may) [ inl was ↦ was | inr commits ↦ absurd (begin_commits_nothing old db commits) ]

-- and its Ok says that the connection is open
pub begin_opens : (old new : State) {A E : Type 0} (r : Result ℕ Error) (q : Result A E) → (HasCleanDisk new → Executes BEGIN.now [] old new r) → OnOk q (IsOk r) → HasCleanDisk new → OnOk q (IsTrue new.is_open)
begin_opens old new (Ok count) (Ok x) ran ok sure = (runs_as BEGIN.now [] old new old.now.schema refl Begin (begin_is old.now.schema) (begin_plain old.now.schema) count (ran sure)).1.is_open
begin_opens old new (Err e) (Ok x) ran ok sure = absurd cc
begin_opens old new r (Err x) ran ok sure = tt

module _ {old new : State} (r : Result ℕ Error) where
  pub ran_begin : {A E : Type 0} (q : Result A E) → (HasCleanDisk new → Executes BEGIN.now [] old new r) → Survives old new (CommitsBy BEGIN.now [] old) → (IsTrue new.is_open → HasCleanDisk new) → OnOk q (IsOk r) → OnErr q (IsErr r) → Begins old new q
  ran_begin {A} {E} q ran survives clean ok err = record { leaves = λ serves up. left r q (ran (clean up)) ok err serves up; stops = λ serves. stopped r q ran ok err }
    where
      shows : (count : ℕ) → Executes BEGIN.now [] old new (Ok count) → Shows old new old.now old.committed true
      shows count ran = (runs_as BEGIN.now [] old new old.now.schema refl Begin (begin_is old.now.schema) (begin_plain old.now.schema) count ran).1

      left : (r : Result ℕ Error) (q : Result A E) → Executes BEGIN.now [] old new r → OnOk q (IsOk r) → OnErr q (IsErr r) → IsServing old → IsTrue new.is_open → LeavesBegun old new q
      left (Ok count) (Ok x) ran ok err serves up =
          let it = shows count ran in
          let was = serves it.was_open in
          record {
            was_open = it.was_open;
            now = it.now_is;
            committed = it.committed_is;
            batch = record {
              serves = record { now = subst IsHub (sym it.now_is) was.now; last = subst IsHub (sym it.committed_is) was.last; settled = λ over. absurd (true≢false (sym it.mode ∙ over)) };
              begun = it.mode;
            };
          }
      left (Err e) (Err x) ran ok err serves up = keeps_last old new (failed_rests BEGIN.now [] old new e serves up ran)
      left (Ok count) (Err x) ran ok err serves up = absurd cc
      left (Err e) (Ok x) ran ok err serves up = absurd cc

      nothing : IsUncommitted old new
      nothing = uncommitted old new (CommitsBy BEGIN.now [] old) (begin_commits_nothing old) survives

      stopped : (r : Result ℕ Error) (q : Result A E) → (HasCleanDisk new → Executes BEGIN.now [] old new r) → OnOk q (IsOk r) → OnErr q (IsErr r) → Stops old new q
      stopped (Ok count) (Ok x) ran ok err = record { stops = nothing; up = λ up sure. (shows count (ran sure)).is_open }
      stopped r (Err x) ran ok err = nothing
      stopped (Err e) (Ok x) ran ok err = absurd cc

  pub ran_rollback : (HasCleanDisk new → Executes ROLLBACK.now [] old new r) → Survives old new (CommitsBy ROLLBACK.now [] old) → (IsTrue new.is_open → HasCleanDisk new) → Undoes old new
  ran_rollback ran survives clean = record { leaves = λ serves up. left r (ran (clean up)) serves up; clean = survives.clean; stops = λ sure db may. elim (survives.crash sure db may) [ inl was ↦ was | inr commits ↦ absurd (rollback_commits_nothing old db commits) ] }
    where
      left : (r : Result ℕ Error) → Executes ROLLBACK.now [] old new r → IsServing old → IsTrue new.is_open → KeepsLast old new
      left (Ok count) ran serves up =
          let back = (runs_as ROLLBACK.now [] old new old.now.schema refl Rollback (rollback_is old.now.schema) (rollback_plain old.now.schema) count ran).1 in
          let was_open = back.was_open up in
          let undone = back.undone up in
          record { was_open = was_open; committed = undone.1; serves = serves_last old new (serves was_open) undone.0 undone.1 }
      left (Err e) ran serves up = keeps_last old new (failed_rests ROLLBACK.now [] old new e serves up ran)

  pub ran_commit : {A E : Type 0} (q : Result A E) → (HasCleanDisk new → Executes COMMIT.now [] old new r) → Survives old new (CommitsBy COMMIT.now [] old) → (IsTrue new.is_open → HasCleanDisk new) → OnOk q (IsOk r) → OnErr q (IsErr r) → Commits IsSame old new q
  ran_commit {A} {E} q ran survives clean ok err = record {
    leaves = λ inside up. left r q (ran (clean up)) ok err inside up;
    clean = λ inside. survives.clean;
    crash = λ inside was_open sure db may. elim (survives.crash sure db may) [ inl was ↦ inl was | inr commits ↦ inr (commit_commits_now old db (inside was_open).begun commits) ];
    up = λ inside was_open sure. still r q (ran sure) ok;
  }
    where
      shows : (count : ℕ) → Executes COMMIT.now [] old new (Ok count) → Shows old new old.now old.now false
      shows count ran = (runs_as COMMIT.now [] old new old.now.schema refl Commit (commit_is old.now.schema) (commit_plain old.now.schema) count ran).1

      left : (r : Result ℕ Error) (q : Result A E) → Executes COMMIT.now [] old new r → OnOk q (IsOk r) → OnErr q (IsErr r) → IsInBatch old → IsTrue new.is_open → LeavesCommitted IsSame old new q
      left (Ok count) (Ok x) ran ok err inside up =
          let it = shows count ran in
          let same : new.committed ≡ new.now = it.committed_is ∙ sym it.now_is in
          record { was_open = it.was_open; edit = ap (λ (d : Database). d.trees) it.now_is; committed = same; ended = it.mode; serves = serves_at new (subst IsHub (sym it.now_is) (inside it.was_open).serves.now) same }
      left (Err e) (Err x) ran ok err inside up = keeps_last old new (failed_rests COMMIT.now [] old new e (λ up. (inside up).serves) up ran)
      left (Ok count) (Err x) ran ok err inside up = absurd cc
      left (Err e) (Ok x) ran ok err inside up = absurd cc

      still : (r : Result ℕ Error) (q : Result A E) → Executes COMMIT.now [] old new r → OnOk q (IsOk r) → OnOk q (IsTrue new.is_open)
      still (Ok count) (Ok x) ran ok = (shows count ran).is_open
      still (Err e) (Ok x) ran ok = absurd cc
      still r (Err x) ran ok = tt

-- a batch with an edit more is committed
module _ {A B E F : Type 0} {Edit : Trees → Trees → Type 0} {a b c : State} {x : A} {r : Result B F} (one : EditsIn {E = E} Edit a b (Ok x)) (two : Commits IsSame b c r) where
  between : IsInBatch a → IsInBatch b
  between inside up = (one.leaves inside up).on.batch

  pub commits_then : Commits Edit a c r
  commits_then = record {
    leaves = λ inside up. left r inside (two.leaves (between inside) up);
    clean = λ inside. let first = (one.stops inside).stops.clean in let after = two.clean (between inside) in omega (arith, first, after);
    crash = λ inside was_open sure db may.
        let after = two.clean (between inside) in
        let mid : HasCleanDisk b = omega (arith, after, sure) in
        let first = one.stops inside in
        let open_between = first.up was_open mid in
        elim (two.crash (between inside) open_between sure db may) [
          | inl was ↦ inl (first.stops.leaves was_open mid db was)
          | inr same ↦ inr (subst (Edit a.now.trees) (sym same) (one.leaves inside open_between).edit)
        ];
    up = λ inside was_open sure. let after = two.clean (between inside) in let mid : HasCleanDisk b = omega (arith, after, sure) in two.up (between inside) ((one.stops inside).up was_open mid) sure;
  }
    where
      left : (r : Result B F) → IsInBatch a → LeavesCommitted IsSame b c r → LeavesCommitted Edit a c r
      left (Ok y) inside it =
          let first = one.leaves inside it.was_open in
          record { was_open = first.on.was_open; edit = subst (Edit a.now.trees) (sym it.edit) first.edit; committed = it.committed; ended = it.ended; serves = it.serves }
      left (Err e) inside it =
          let first = (one.leaves inside it.was_open).on in
          record { was_open = first.was_open; committed = it.committed ∙ first.committed; serves = it.serves }

pub edit_keeps_last : (old new : State) → GoesOn old new ⊎ IsUndone old new → KeepsLast old new
edit_keeps_last old new (inl on) = record { was_open = on.was_open; committed = on.committed; serves = on.batch.serves }
edit_keeps_last old new (inr undone) = record { was_open = undone.was_open; committed = undone.committed; serves = undone.serves }

-- an edit that fails before the commit
pub commits_err : {A B E F : Type 0} {One Edit : Trees → Trees → Type 0} {old new : State} {e : E} {q : Result B F} → EditsIn {A = A} One old new (Err e) → IsErr q → Commits Edit old new q
commits_err {A} {B} {E} {F} {One} {Edit} {old} {new} {e} {q} part failed = go q failed
  where
    go : (q : Result B F) → IsErr q → Commits Edit old new q
    go (Ok y) failed = absurd cc
    go (Err d) failed = record {
      leaves = λ inside up. edit_keeps_last old new (part.leaves inside up);
      clean = λ inside. (part.stops inside).clean;
      crash = λ inside was_open sure db may. inl ((part.stops inside).leaves was_open sure db may);
      up = λ inside was_open sure. tt;
    }

-- ---- a change of a batch

serving : (op : List ℕ) (change : Edit) (old : State) → IsReady op change old → IsServing old
serving op change old ready up = (ready up).0

module _ (op : List ℕ) (change : Edit) {old a : State} (ready : IsReady op change old) where
  pub adds_then : {A B E F : Type 0} {new : State} {x : A} {r : Result B F} → Begins {E = E} old a (Ok x) → EditsFitting op change a new r → Adds (IsMade (edit op change)) old new r
  adds_then {A} {B} {E} {F} {new} {x} {r} begins edits = record { leaves = λ up. left r (edits.leaves may up); stops = stopped r (begins.stops (serving op change old ready)) (edits.stops may) }
    where
      begun : IsTrue a.is_open → Begun old a
      begun up = begins.leaves (serving op change old ready) up

      rows : IsTrue a.is_open → rows_of a.now.trees ≡ rows_of old.now.trees
      rows up = ap (λ (d : Database). rows_of d.trees) (begun up).now

      may : MayEdit op change a
      may up =
          let was = ready (begun up).was_open in
          ((begun up).batch, subst WellFormedRows (sym (rows up)) was.1, subst (EditFits op change) (sym (rows up)) was.2)

      left : (r : Result B F) → LeavesEdit (IsMade (edit op change)) a new r → LeavesAdded (IsMade (edit op change)) old new r
      left (Ok y) it =
          let first = begun it.on.was_open in
          record { was_open = first.was_open; edit = it.edit ∙ ap (edit op change) (rows it.on.was_open); committed = it.on.committed ∙ first.committed; batch = it.on.batch }
      left (Err e) it =
          let last = edit_keeps_last a new it in
          let first = begun last.was_open in
          record { was_open = first.was_open; committed = last.committed ∙ first.committed; serves = last.serves }

      stopped : (r : Result B F) → StaysOpen old a → Stops a new r → Stops old new r
      stopped (Ok y) first second = open_after old a new first second
      stopped (Err e) first second = uncommitted_after old a new first second

  pub adds_err : {A B E F : Type 0} {Edit : Trees → Trees → Type 0} {e : E} {q : Result B F} → Begins {A = A} old a (Err e) → IsErr q → Adds Edit old a q
  adds_err {A} {B} {E} {F} {Edit} {e} {q} begins failed = go q failed
    where
      go : (q : Result B F) → IsErr q → Adds Edit old a q
      go (Ok y) failed = absurd cc
      go (Err d) failed = record { leaves = λ up. begins.leaves (serving op change old ready) up; stops = begins.stops (serving op change old ready) }

-- ---- a change that is committed at once

module _ (op : List ℕ) (change : Edit) {A E : Type 0} {a b : State} {x : A} (one : IsReady op change a → Adds {E = E} (IsMade (edit op change)) a b (Ok x)) where
  in_batch : IsReady op change a → IsInBatch b
  in_batch ready up = ((one ready).leaves up).batch

  pub adds_commits : {B F : Type 0} {c : State} {n : ℕ} {r : Result B F} → Commits (IsCounted same_rows n) b c r → CommitsIf (IsReady op change) (IsCounted (edit op change) n) a c r
  adds_commits {B} {F} {c} {n} {r} two = record {
    leaves = λ ready up. left r ready (two.leaves (in_batch ready) up);
    clean = λ ready. let first = (one ready).stops.stops.clean in let after = two.clean (in_batch ready) in omega (arith, first, after);
    crash = λ ready was_open sure db may.
        let first = (one ready).stops in
        let mid = sure_between ready sure in
        let open_between = first.up was_open mid in
        elim (two.crash (in_batch ready) open_between sure db may) [
          | inl was ↦ inl (first.stops.leaves was_open mid db was)
          | inr counted ↦ inr (record { rows = counted.rows ∙ ((one ready).leaves open_between).edit; counted = counted.counted })
        ];
    up = λ ready was_open sure. two.up (in_batch ready) ((one ready).stops.up was_open (sure_between ready sure)) sure;
  }
    where
      sure_between : IsReady op change a → HasCleanDisk c → HasCleanDisk b
      sure_between ready sure = let after = two.clean (in_batch ready) in omega (arith, after, sure)

      left : (r : Result B F) → IsReady op change a → LeavesCommitted (IsCounted same_rows n) b c r → LeavesCommitted (IsCounted (edit op change) n) a c r
      left (Ok y) ready it =
          let first = (one ready).leaves it.was_open in
          record { was_open = first.was_open; edit = record { rows = it.edit.rows ∙ first.edit; counted = it.edit.counted }; committed = it.committed; ended = it.ended; serves = it.serves }
      left (Err e) ready it =
          let first = (one ready).leaves it.was_open in
          record { was_open = first.was_open; committed = it.committed ∙ first.committed; serves = it.serves }

pub adds_fail : (op : List ℕ) (change : Edit) {A B E F : Type 0} {Edit : Trees → Trees → Type 0} {a b : State} {e : E} {q : Result B F} → (IsReady op change a → Adds {A = A} (IsMade (edit op change)) a b (Err e)) → IsErr q → CommitsIf (IsReady op change) Edit a b q
adds_fail op change {A} {B} {E} {F} {Edit} {a} {b} {e} {q} one failed = go q failed
  where
    go : (q : Result B F) → IsErr q → CommitsIf (IsReady op change) Edit a b q
    go (Ok y) failed = absurd cc
    go (Err d) failed = record {
      leaves = λ ready up. (one ready).leaves up;
      clean = λ ready. (one ready).stops.clean;
      crash = λ ready was_open sure db may. inl ((one ready).stops.leaves was_open sure db may);
      up = λ ready was_open sure. tt;
    }

-- ---- a connection without a batch that is tried

pub tries_err : {A B E F : Type 0} {old new : State} {e : E} {q : Result B F} → Begins {A = A} old new (Err e) → (HasCleanDisk new → (db : Trees) → new.may_leave db → old.may_leave db) → doubt old.is_clean ≤ doubt new.is_clean → IsErr q → Tries old new q
tries_err {A} {B} {E} {F} {old} {new} {e} {q} begins stops clean failed = go q failed
  where
    go : (q : Result B F) → IsErr q → Tries old new q
    go (Ok y) failed = absurd cc
    go (Err d) failed = record {
      leaves = λ rested up. begins.leaves (λ was. (rested was).serves) up;
      clean = λ rested. clean;
      stops = λ rested sure db may. inl (stops sure db may);
      up = λ rested sure. tt;
    }

module _ {A E : Type 0} {a b : State} {x : A} (begins : Begins {E = E} a b (Ok x)) (stops : HasCleanDisk b → (db : Trees) → b.may_leave db → a.may_leave db) (clean : doubt a.is_clean ≤ doubt b.is_clean) (opens : HasCleanDisk b → IsTrue b.is_open) where
  begun : IsRested a → IsTrue b.is_open → Begun a b
  begun rested up = begins.leaves (λ was. (rested was).serves) up

  pub tries_then : {B F : Type 0} {c : State} {r : Result B F} → Commits IsSame b c r → Tries a c r
  tries_then {B} {F} {c} {r} two = record {
    leaves = λ rested up. left r rested (two.leaves (inside rested) up);
    clean = λ rested. let after = two.clean (inside rested) in omega (arith, clean, after);
    stops = λ rested sure db may.
        let mid = sure_between rested sure in
        let up = opens mid in
        let first = begun rested up in
        elim (two.crash (inside rested) up sure db may) [
          | inl was ↦ inl (stops mid db was)
          | inr same ↦ inr (first.was_open, same ∙ ap (λ (d : Database). d.trees) first.now ∙ sym (last rested first.was_open))
        ];
    up = λ rested sure. two.up (inside rested) (opens (sure_between rested sure)) sure;
  }
    where
      inside : IsRested a → IsInBatch b
      inside rested up = (begun rested up).batch

      sure_between : IsRested a → HasCleanDisk c → HasCleanDisk b
      sure_between rested sure = let after = two.clean (inside rested) in omega (arith, after, sure)

      last : IsRested a → IsTrue a.is_open → a.committed.trees ≡ a.now.trees
      last rested up = let it = rested up in ap (λ (d : Database). d.trees) (it.serves.settled it.over)

      left : (r : Result B F) → IsRested a → LeavesCommitted IsSame b c r → LeavesRested a c r
      left (Ok y) rested it =
          let first = begun rested it.was_open in
          let same : c.now.trees ≡ a.now.trees = it.edit ∙ ap (λ (d : Database). d.trees) first.now in
          record { was_open = first.was_open; now = same; committed = ap (λ (d : Database). d.trees) it.committed ∙ same ∙ sym (last rested first.was_open); resting = record { serves = it.serves; over = it.ended } }
      left (Err e) rested it =
          let first = begun rested it.was_open in
          record { was_open = first.was_open; committed = it.committed ∙ first.committed; serves = it.serves }
