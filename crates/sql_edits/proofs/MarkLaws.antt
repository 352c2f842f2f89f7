-- What the texts that begin, end and undo a change of a batch mean.
use Rattle.std.proofs.Common.{◌≡◌, ◌⊎◌, ◌∙◌, ◌++◌, ◌+◌, ℕ, List, [], ◌∷◌, Bool, true, false, Option, None, Some, Ok, Err, Result, IsTrue, IsOk, IsErr, is_ok, OnOk, OnErr, ap, codes, inl, inr, length, map, not, refl, slice_get, slice_index_or, subst, sym, take, true≢false, arith}
use Rattle.std.proofs.lemmas.Bool.{cases_lt}
use Rattle.std.proofs.lemmas.List.{length-append, length-map, take_all}
use Rattle.sqlite_tied.specs.Compute.{everything}
use Rattle.sqlite_trees.specs.Sound.{same_name}
use Rattle.sqlite_trees.specs.Tree.{Trees}
use Rattle.sqlite_schema.specs.declared.schema.Schema.{Schema}
use Rattle.sqlite_schema.specs.declared.command.Command.{Command}
use Rattle.sqlite_schema.specs.declared.command.Command.TheVariants.{Release, RollbackTo, Savepoint as Save}
use Rattle.sqlite.specs.declared.error.Error.{Error}
use Rattle.sqlite.specs.Effect.{Database}
use Rattle.sqlite.specs.Listing.{understood}
use Rattle.sqlite.specs.State.{State, HasCleanDisk, GoesBackTo, IsNewestNamed, ReleasesAt, Savepoint, Survives, CommitsBy, Executes, Shows, begins_at, names_in}
use Rattle.sqlite.proofs.Callers.{IsPlain, command_of, runs_as}
use Rattle.sql_tables.specs.declared.batches.TheConstants.{RELEASE, ROLLBACK_TO, SAVEPOINT}
use Rattle.hub_rows.specs.Changes.{edit, EditFits}
use Rattle.hub_rows.specs.WellFormed.{WellFormedRows}
use Rattle.hub_rows.specs.declared.change.Edit.{Edit}
use Rattle.hub_rows.specs.declared.store.StoreFault.{StoreFault}
use Rattle.sql_rows.specs.Kept.{GoesOn, InBatch, IsHub, IsInBatch, IsMade, IsUncommitted, Serves, StaysOpen, Stops}
use Rattle.sql_rows.specs.TypedTables.{rows_of}
use Rattle.sql_rows.proofs.EditLaws.{failed_rests}
use Rattle.sql_rows.proofs.StoreLemmas.{open_after, serves_as, uncommitted_after}
use Rattle.sql_edits.specs.declared.batches.NotMade.TheVariants.{Alone, WithBatch}
use Rattle.sql_edits.specs.Batches.{Added, AddsMore, Begun, GoesBack, GoneBack, IsInChange, IsSince, KeepsLast, LeavesGoing, LeavesGoneBack, LeavesMarked, LeavesReleased, LeavesTakenBack, Marked, Marks, Releases, TakenBack, TakesBack, TellsGoing, change_mark}
use Rattle.sql_edits.specs.Ready.{EditsFitting, MayEdit}
use Rattle.sql_edits.proofs.BatchLaws.{edit_keeps_last, keeps_last, uncommitted}

-- ---- the texts, over any schema

savepoint_is : (schema : Schema) → command_of (understood schema SAVEPOINT.now) ≡ Save (codes "change")
unfolding understood everything
savepoint_is schema = refl

savepoint_plain : (schema : Schema) → IsPlain (understood schema SAVEPOINT.now)
unfolding understood everything
savepoint_plain schema = (refl, refl)

release_is : (schema : Schema) → command_of (understood schema RELEASE.now) ≡ Release (codes "change")
unfolding understood everything
release_is schema = refl

release_plain : (schema : Schema) → IsPlain (understood schema RELEASE.now)
unfolding understood everything
release_plain schema = (refl, refl)

back_is : (schema : Schema) → command_of (understood schema ROLLBACK_TO.now) ≡ RollbackTo (codes "change")
unfolding understood everything
back_is schema = refl

back_plain : (schema : Schema) → IsPlain (understood schema ROLLBACK_TO.now)
unfolding understood everything
back_plain schema = (refl, refl)

-- ---- the newest savepoint is that of the change

last_mapped : {A B : Type 0} (f : A → B) (xs : List A) (x : A) (d : B) → slice_index_or (map f (xs ++ x ∷ [])) (length xs) d ≡ f x
last_mapped f [] x d = refl
last_mapped f (y ∷ ys) x d = last_mapped f ys x d

last_got : {A : Type 0} (xs : List A) (x : A) → slice_get (xs ++ x ∷ []) (length xs) ≡ Some x
last_got [] x = refl
last_got (y ∷ ys) x = last_got ys x

unwrap_some : {A : Type 0} {x y : A} → Some x ≡ Some y → x ≡ y
unwrap_some {A} {x} e = ap (unwrap_or_else x) e
  where
    unwrap_or_else : A → Option A → A
    unwrap_or_else d (Some v) = v
    unwrap_or_else d None = d

same_itself : same_name (codes "change") (codes "change") ≡ true
unfolding same_name
same_itself = refl

module _ (s : State) (before : List Savepoint) (d : Database) (is : s.marks ≡ before ++ change_mark d ∷ []) where
  newest_is : (at : ℕ) → IsNewestNamed (names_in s) (codes "change") at → at ≡ length before
  newest_is at it =
      let named : slice_index_or (names_in s) (length before) [] ≡ codes "change" = ap (λ ms. slice_index_or (map (λ (p : Savepoint). p.name) ms) (length before) []) is ∙ last_mapped (λ (p : Savepoint). p.name) before (change_mark d) [] in
      let many : length (names_in s) ≡ length before + 1 = length-map s.marks (λ (p : Savepoint). p.name) ∙ ap (λ ms. length ms) is ∙ length-append before (change_mark d ∷ []) in
      let within = it.within in
      elim (cases_lt at (length before)) [
        | inl older ↦ absurd (true≢false (sym same_itself ∙ subst (λ n. same_name n (codes "change") ≡ false) named (it.last (length before) older (omega (arith, many)))))
        | inr newer ↦ omega (arith, within, many, newer)
      ]

  begins_none : (at : ℕ) → IsNewestNamed (names_in s) (codes "change") at → begins_at s at ≡ false
  begins_none at it = ap (λ n. begins_at s n) (newest_is at it) ∙ ap (λ ms. slice_index_or (map (λ (p : Savepoint). p.begins) ms) (length before) false) is ∙ last_mapped (λ (p : Savepoint). p.begins) before (change_mark d) false

  mark_got : (at : ℕ) → IsNewestNamed (names_in s) (codes "change") at → slice_get s.marks at ≡ Some (change_mark d)
  mark_got at it = ap (λ n. slice_get s.marks n) (newest_is at it) ∙ ap (λ ms. slice_get ms (length before)) is ∙ last_got before (change_mark d)

-- ---- what they commit

savepoint_commits_nothing : (s : State) (db : Trees) → CommitsBy SAVEPOINT.now [] s db → ⊥
unfolding CommitsBy
savepoint_commits_nothing s db h =
    let bare = subst IsPlain h.1.is (savepoint_plain s.now.schema) in
    let is : h.0.command ≡ Save (codes "change") = sym (ap command_of h.1.is) ∙ savepoint_is s.now.schema in
    elim (rw (is, bare.0) at h.2) [
      | inl it ↦ elim it.0 [ inl commits ↦ let e = commits in cc | inr releases ↦ let e = releases.2 in cc ]
      | inr writes ↦ let e = writes.3 in cc
    ]

back_commits_nothing : (s : State) (db : Trees) → CommitsBy ROLLBACK_TO.now [] s db → ⊥
unfolding CommitsBy
back_commits_nothing s db h =
    let bare = subst IsPlain h.1.is (back_plain s.now.schema) in
    let is : h.0.command ≡ RollbackTo (codes "change") = sym (ap command_of h.1.is) ∙ back_is s.now.schema in
    elim (rw (is, bare.0) at h.2) [
      | inl it ↦ elim it.0 [ inl commits ↦ let e = commits in cc | inr releases ↦ let e = releases.2 in cc ]
      | inr writes ↦ let e = writes.3 in cc
    ]

-- the name of a savepoint that is released
name_of : Command → List ℕ
name_of (Release name) = name
name_of _ = []

release_commits_nothing : (s : State) (before : List Savepoint) (d : Database) → s.marks ≡ before ++ change_mark d ∷ [] → (db : Trees) → CommitsBy RELEASE.now [] s db → ⊥
unfolding CommitsBy name_of
release_commits_nothing s before d marks db h =
    let bare = subst IsPlain h.1.is (release_plain s.now.schema) in
    let is : h.0.command ≡ Release (codes "change") = sym (ap command_of h.1.is) ∙ release_is s.now.schema in
    elim (rw (is, bare.0) at h.2) [
      | inl it ↦ elim it.0 [
        | inl commits ↦ let e = commits in cc
        | inr releases ↦
            let named : releases.0 ≡ codes "change" = sym (ap name_of releases.2) in
            let newest : IsNewestNamed (names_in s) (codes "change") releases.1 = subst (λ n. IsNewestNamed (names_in s) n releases.1) named releases.3 in
            true≢false (sym releases.4 ∙ begins_none s before d marks releases.1 newest)
      ]
      | inr writes ↦ let e = writes.3 in cc
    ]

-- ---- what they leave

module _ {old new : State} (r : Result ℕ Error) where
  pub ran_savepoint : {A E : Type 0} (q : Result A E) → (HasCleanDisk new → Executes SAVEPOINT.now [] old new r) → Survives old new (CommitsBy SAVEPOINT.now [] old) → (IsTrue new.is_open → HasCleanDisk new) → OnOk q (IsOk r) → OnErr q (IsErr r) → Marks old new q
  ran_savepoint {A} {E} q ran survives clean ok err = record {
    leaves = λ inside up. left r q (ran (clean up)) ok err inside up;
    clean = survives.clean;
    stops = λ sure db may. elim (survives.crash sure db may) [ inl was ↦ was | inr commits ↦ absurd (savepoint_commits_nothing old db commits) ];
    up = λ sure. both r q (ran sure) ok;
  }
    where
      marked : (count : ℕ) → Executes SAVEPOINT.now [] old new (Ok count) → Shows old new old.now old.committed true × (new.marks ≡ old.marks ++ record { name = codes "change"; begins = not old.in_transaction; db = old.now } ∷ [])
      marked count ran = let it = (runs_as SAVEPOINT.now [] old new old.now.schema refl (Save (codes "change")) (savepoint_is old.now.schema) (savepoint_plain old.now.schema) count ran).0 in (it.0, it.2)

      left : (r : Result ℕ Error) (q : Result A E) → Executes SAVEPOINT.now [] old new r → OnOk q (IsOk r) → OnErr q (IsErr r) → IsInBatch old → IsTrue new.is_open → LeavesMarked old new q
      left (Ok count) (Ok x) ran ok err inside up =
          let it = marked count ran in
          let was = inside it.0.was_open in
          record {
            was_open = it.0.was_open;
            now = it.0.now_is;
            committed = it.0.committed_is;
            since = record {
              batch = record { serves = serves_as old new was.serves it.0.now_is it.0.committed_is (it.0.mode ∙ sym was.begun); begun = it.0.mode };
              marks = it.1 ∙ ap (λ b. old.marks ++ record { name = codes "change"; begins = not b; db = old.now } ∷ []) was.begun;
            };
          }
      left (Err e) (Err x) ran ok err inside up = keeps_last old new (failed_rests SAVEPOINT.now [] old new e (λ up. (inside up).serves) up ran)
      left (Ok count) (Err x) ran ok err inside up = absurd cc
      left (Err e) (Ok x) ran ok err inside up = absurd cc

      both : (r : Result ℕ Error) (q : Result A E) → Executes SAVEPOINT.now [] old new r → OnOk q (IsOk r) → OnOk q (IsTrue old.is_open × IsTrue new.is_open)
      both (Ok count) (Ok x) ran ok = let it = (marked count ran).0 in (it.was_open, it.is_open)
      both (Err e) (Ok x) ran ok = absurd cc
      both r (Err x) ran ok = tt

  pub ran_release : {A E : Type 0} (q : Result A E) → (HasCleanDisk new → Executes RELEASE.now [] old new r) → Survives old new (CommitsBy RELEASE.now [] old) → (IsTrue new.is_open → HasCleanDisk new) → OnOk q (IsOk r) → OnErr q (IsErr r) → Releases old new q
  ran_release {A} {E} q ran survives clean ok err = record {
    clean = survives.clean;
    up = λ sure. both r q (ran sure) ok;
    leaves = λ before first since up. left before first since r q (ran (clean up)) ok err up;
    stops = λ before first since. stopped before first since r q ran ok err;
  }
    where
      runs : (count : ℕ) → Executes RELEASE.now [] old new (Ok count) → (at : ℕ) × IsNewestNamed (names_in old) (codes "change") at × ReleasesAt old new at
      runs count ran = let it = runs_as RELEASE.now [] old new old.now.schema refl (Release (codes "change")) (release_is old.now.schema) (release_plain old.now.schema) count ran in (it.0, it.1, it.2)

      was_open : (count : ℕ) → Executes RELEASE.now [] old new (Ok count) → IsTrue old.is_open × IsTrue new.is_open
      was_open count ran = elim (runs count ran).2 [ inl commits ↦ (commits.1.0.was_open, commits.1.0.is_open) | inr drops ↦ (drops.1.0.was_open, drops.1.0.is_open) ]

      both : (r : Result ℕ Error) (q : Result A E) → Executes RELEASE.now [] old new r → OnOk q (IsOk r) → OnOk q (IsTrue old.is_open × IsTrue new.is_open)
      both (Ok count) (Ok x) ran ok = was_open count ran
      both (Err e) (Ok x) ran ok = absurd cc
      both r (Err x) ran ok = tt

      dropped : (before : List Savepoint) (first : Database) (since : IsInChange before first old) → (count : ℕ) → Executes RELEASE.now [] old new (Ok count) → Shows old new old.now old.committed true
      dropped before first since count ran =
          let it = runs count ran in
          elim it.2 [
            | inl commits ↦ absurd (true≢false (sym commits.0 ∙ begins_none old before first (since (was_open count ran).0).marks it.0 it.1))
            | inr drops ↦ drops.1.0
          ]

      left : (before : List Savepoint) (first : Database) (since : IsInChange before first old) → (r : Result ℕ Error) (q : Result A E) → Executes RELEASE.now [] old new r → OnOk q (IsOk r) → OnErr q (IsErr r) → IsTrue new.is_open → LeavesReleased old new q
      left before first since (Ok count) (Ok x) ran ok err up =
          let it = dropped before first since count ran in
          let was = (since it.was_open).batch in
          record {
            was_open = it.was_open;
            now = it.now_is;
            committed = it.committed_is;
            batch = record { serves = serves_as old new was.serves it.now_is it.committed_is (it.mode ∙ sym was.begun); begun = it.mode };
          }
      left before first since (Err e) (Err x) ran ok err up = keeps_last old new (failed_rests RELEASE.now [] old new e (λ up. (since up).batch.serves) up ran)
      left before first since (Ok count) (Err x) ran ok err up = absurd cc
      left before first since (Err e) (Ok x) ran ok err up = absurd cc

      nothing : (before : List Savepoint) (first : Database) (since : IsInChange before first old) → IsUncommitted old new
      nothing before first since = record { clean = survives.clean; leaves = λ up sure db may. elim (survives.crash sure db may) [ inl was ↦ was | inr commits ↦ absurd (release_commits_nothing old before first (since up).marks db commits) ] }

      stopped : (before : List Savepoint) (first : Database) (since : IsInChange before first old) → (r : Result ℕ Error) (q : Result A E) → (HasCleanDisk new → Executes RELEASE.now [] old new r) → OnOk q (IsOk r) → OnErr q (IsErr r) → Stops old new q
      stopped before first since (Ok count) (Ok x) ran ok err = record { stops = nothing before first since; up = λ up sure. (was_open count (ran sure)).1 }
      stopped before first since r (Err x) ran ok err = nothing before first since
      stopped before first since (Err e) (Ok x) ran ok err = absurd cc

  pub ran_back : {A E : Type 0} (q : Result A E) → (HasCleanDisk new → Executes ROLLBACK_TO.now [] old new r) → Survives old new (CommitsBy ROLLBACK_TO.now [] old) → (IsTrue new.is_open → HasCleanDisk new) → OnOk q (IsOk r) → OnErr q (IsErr r) → GoesBack old new q
  ran_back {A} {E} q ran survives clean ok err = record {
    leaves = λ before first hub since up. left before first hub since r q (ran (clean up)) ok err up;
    clean = survives.clean;
    stops = λ sure db may. elim (survives.crash sure db may) [ inl was ↦ was | inr commits ↦ absurd (back_commits_nothing old db commits) ];
    up = λ sure. still r q (ran sure) ok;
  }
    where
      runs : (count : ℕ) → Executes ROLLBACK_TO.now [] old new (Ok count) → (at : ℕ) × IsNewestNamed (names_in old) (codes "change") at × GoesBackTo old new at
      runs count ran = let it = runs_as ROLLBACK_TO.now [] old new old.now.schema refl (RollbackTo (codes "change")) (back_is old.now.schema) (back_plain old.now.schema) count ran in (it.0, it.1, it.2)

      left : (before : List Savepoint) (first : Database) (hub : IsTrue old.is_open → IsHub first) (since : IsInChange before first old) → (r : Result ℕ Error) (q : Result A E) → Executes ROLLBACK_TO.now [] old new r → OnOk q (IsOk r) → OnErr q (IsErr r) → IsTrue new.is_open → LeavesGoneBack before first old new q
      left before first hub since (Ok count) (Ok x) ran ok err up =
          let it = runs count ran in
          let back = it.2 in
          let was = since back.2.was_open in
          let found : back.0 ≡ change_mark first = unwrap_some (sym back.1 ∙ mark_got old before first was.marks it.0 it.1) in
          let now : new.now ≡ first = back.2.now_is ∙ ap (λ (p : Savepoint). p.db) found in
          record {
            was_open = back.2.was_open;
            now = now;
            committed = back.2.committed_is;
            since = record {
              batch = record {
                serves = record { now = subst IsHub (sym now) (hub back.2.was_open); last = subst IsHub (sym back.2.committed_is) was.batch.serves.last; settled = λ over. absurd (true≢false (sym back.2.mode ∙ over)) };
                begun = back.2.mode;
              };
              marks = back.4 ∙ ap (λ n. take (n + 1) old.marks) (newest_is old before first was.marks it.0 it.1) ∙ ap (take (length before + 1)) was.marks ∙ (let many = length-append before (change_mark first ∷ []) in take_all (length before + 1) (before ++ change_mark first ∷ []) (omega (arith, many)));
            };
          }
      left before first hub since (Err e) (Err x) ran ok err up = keeps_last old new (failed_rests ROLLBACK_TO.now [] old new e (λ up. (since up).batch.serves) up ran)
      left before first hub since (Ok count) (Err x) ran ok err up = absurd cc
      left before first hub since (Err e) (Ok x) ran ok err up = absurd cc

      still : (r : Result ℕ Error) (q : Result A E) → Executes ROLLBACK_TO.now [] old new r → OnOk q (IsOk r) → OnOk q (IsTrue new.is_open)
      still (Ok count) (Ok x) ran ok = (runs count ran).2.2.is_open
      still (Err e) (Ok x) ran ok = absurd cc
      still r (Err x) ran ok = tt

-- ---- a change that is undone alone

module _ {old mid : State} {A E : Type 0} {x : A} (back : GoesBack {E = E} old mid (Ok x)) where
  since_back : (before : List Savepoint) (first : Database) → (IsTrue old.is_open → IsHub first) → IsInChange before first old → IsInChange before first mid
  since_back before first hub since up = (back.leaves before first hub since up).since

  pub takes_back : {B F : Type 0} {new : State} {r : Result B F} → Releases mid new r → TakesBack old new r
  takes_back {B} {F} {new} {r} released = record {
    leaves = λ before first hub since up. left before first hub since r (released.leaves before first (since_back before first hub since) up);
    clean = let one = back.clean in let two = released.clean in omega (arith, one, two);
    stops = λ before first hub since sure db may.
        let two = released.clean in
        let sure_mid : HasCleanDisk mid = omega (arith, two, sure) in
        back.stops sure_mid db ((uncommitted_of r (released.stops before first (since_back before first hub since))).leaves (back.up sure_mid) sure db may);
    up = λ sure. opens r (released.up sure);
  }
    where
      uncommitted_of : (r : Result B F) → Stops mid new r → IsUncommitted mid new
      uncommitted_of (Ok y) it = it.stops
      uncommitted_of (Err e) it = it

      opens : (r : Result B F) → OnOk r (IsTrue mid.is_open × IsTrue new.is_open) → OnOk r (IsTrue new.is_open)
      opens (Ok y) it = it.1
      opens (Err e) it = tt

      left : (before : List Savepoint) (first : Database) (hub : IsTrue old.is_open → IsHub first) (since : IsInChange before first old) (r : Result B F) → LeavesReleased mid new r → LeavesTakenBack first old new r
      left before first hub since (Ok y) it =
          let gone = back.leaves before first hub since it.was_open in
          record { was_open = gone.was_open; now = it.now ∙ gone.now; committed = it.committed ∙ gone.committed; batch = it.batch }
      left before first hub since (Err e) it =
          let gone = back.leaves before first hub since it.was_open in
          record { was_open = gone.was_open; committed = it.committed ∙ gone.committed; serves = it.serves }

pub takes_err : {old new : State} {A B E F : Type 0} {e : E} {q : Result B F} → GoesBack {A = A} old new (Err e) → IsErr q → TakesBack old new q
takes_err {old} {new} {A} {B} {E} {F} {e} {q} back failed = go q failed
  where
    go : (q : Result B F) → IsErr q → TakesBack old new q
    go (Ok y) failed = absurd cc
    go (Err d) failed = record { leaves = λ before first hub since up. back.leaves before first hub since up; clean = back.clean; stops = λ before first hub since. back.stops; up = λ sure. tt }

module _ (op : List ℕ) (change : Edit) {old : State} (may : MayEdit op change old) where
  in_batch : IsInBatch old
  in_batch up = (may up).0

  pub not_marked : {A B E : Type 0} {new : State} {e : E} {f : StoreFault} → Marks {A = A} old new (Err e) → AddsMore {A = B} (IsMade (edit op change)) old new (Err (WithBatch f))
  not_marked {A} {B} {E} {new} marks = record { leaves = λ up. marks.leaves in_batch up; stops = record { clean = marks.clean; leaves = λ up sure. marks.stops sure } }

  module _ {A E : Type 0} {a : State} {x : A} (marks : Marks {E = E} old a (Ok x)) where
    marked : IsTrue a.is_open → Marked old a
    marked up = marks.leaves in_batch up

    marks_only : StaysOpen old a
    marks_only = record { stops = record { clean = marks.clean; leaves = λ up sure. marks.stops sure }; up = λ up sure. (marks.up sure).1 }

    rows : IsTrue a.is_open → rows_of a.now.trees ≡ rows_of old.now.trees
    rows up = ap (λ (d : Database). rows_of d.trees) (marked up).now

    may_then : MayEdit op change a
    may_then up =
        let was = may (marked up).was_open in
        ((marked up).since.batch, subst WellFormedRows (sym (rows up)) was.1, subst (EditFits op change) (sym (rows up)) was.2)

    -- one that is made
    module _ {B F : Type 0} {b : State} {y : B} (edits : EditsFitting {E = F} op change a b (Ok y)) where
      since_made : IsInChange old.marks old.now b
      since_made up = let it = edits.leaves may_then up in record { batch = it.on.batch; marks = it.on.marks ∙ (marked it.on.was_open).since.marks }

      stays : StaysOpen old b
      stays = open_after old a b marks_only (edits.stops may_then)

      pub made_more : {C D G : Type 0} {c : State} {z : C} {w : D} → Releases {E = G} b c (Ok z) → AddsMore (IsMade (edit op change)) old c (Ok w)
      made_more {C} {D} {G} {c} {z} {w} released = record {
        leaves = λ up.
            let it = released.leaves old.marks old.now since_made up in
            let made = edits.leaves may_then it.was_open in
            let first = marked made.on.was_open in
            record {
              was_open = first.was_open;
              edit = ap (λ (d : Database). rows_of d.trees) it.now ∙ made.edit ∙ ap (edit op change) (rows made.on.was_open);
              committed = it.committed ∙ made.on.committed ∙ first.committed;
              batch = it.batch;
            };
        stops = open_after old b c stays (released.stops old.marks old.now since_made);
      }

      pub not_released : {C D G : Type 0} {c : State} {e : G} {f : StoreFault} → Releases {A = C} b c (Err e) → AddsMore {A = D} (IsMade (edit op change)) old c (Err (WithBatch f))
      not_released {C} {D} {G} {c} {e} {f} released = record {
        leaves = λ up.
            let it = released.leaves old.marks old.now since_made up in
            let made = edits.leaves may_then it.was_open in
            let first = marked made.on.was_open in
            record { was_open = first.was_open; committed = it.committed ∙ made.on.committed ∙ first.committed; serves = it.serves };
        stops = uncommitted_after old b c stays (released.stops old.marks old.now since_made);
      }

    -- one that fails
    module _ {B F : Type 0} {b : State} {e : F} (edits : EditsFitting {A = B} op change a b (Err e)) where
      stops_there : IsUncommitted old b
      stops_there = uncommitted_after old a b marks_only (edits.stops may_then)

      pub undone_whole : {C : Type 0} {f : StoreFault} → AddsMore {A = C} (IsMade (edit op change)) old b (Err (WithBatch f))
      undone_whole = record {
        leaves = λ up.
            let it = edit_keeps_last a b (edits.leaves may_then up) in
            let first = marked it.was_open in
            record { was_open = first.was_open; committed = it.committed ∙ first.committed; serves = it.serves };
        stops = stops_there;
      }

      module _ (begun : b.in_transaction ≡ true) where
        went_on : IsTrue b.is_open → GoesOn a b
        went_on up = elim (edits.leaves may_then up) [ inl on ↦ on | inr undone ↦ absurd (true≢false (sym begun ∙ undone.ended)) ]

        since_failed : IsInChange old.marks old.now b
        since_failed up = let on = went_on up in record { batch = on.batch; marks = on.marks ∙ (marked on.was_open).since.marks }

        hub : IsTrue b.is_open → IsHub old.now
        hub up = (may (marked (went_on up).was_open).was_open).0.serves.now

        back_there : {C G : Type 0} {c : State} {q : Result C G} → TakesBack b c q → IsUncommitted old c
        back_there {C} {G} {c} {q} taken = record {
          clean = let one = stops_there.clean in let two = taken.clean in omega (arith, one, two);
          leaves = λ up sure db may.
              let two = taken.clean in
              let sure_there : HasCleanDisk b = omega (arith, two, sure) in
              stops_there.leaves up sure_there db (taken.stops old.marks old.now hub since_failed sure db may);
        }

        pub undone_alone : {C D G : Type 0} {c : State} {z : C} {f : StoreFault} → TakesBack {E = G} b c (Ok z) → AddsMore {A = D} (IsMade (edit op change)) old c (Err (Alone f))
        undone_alone {C} {D} {G} {c} {z} {f} taken = record {
          leaves = λ up.
              let it = taken.leaves old.marks old.now hub since_failed up in
              let on = went_on it.was_open in
              let first = marked on.was_open in
              record { was_open = first.was_open; now = it.now; committed = it.committed ∙ on.committed ∙ first.committed; batch = it.batch };
          stops = record { stops = back_there taken; up = λ up sure. taken.up sure };
        }

        -- what is left of the change is undone with the batch
        pub not_undone : {C D G : Type 0} {c : State} {e : G} {f : StoreFault} → TakesBack {A = C} b c (Err e) → AddsMore {A = D} (IsMade (edit op change)) old c (Err (WithBatch f))
        not_undone {C} {D} {G} {c} {e} {f} taken = record {
          leaves = λ up.
              let it = taken.leaves old.marks old.now hub since_failed up in
              let on = went_on it.was_open in
              let first = marked on.was_open in
              record { was_open = first.was_open; committed = it.committed ∙ on.committed ∙ first.committed; serves = it.serves };
          stops = back_there taken;
        }

-- ---- whether a batch goes on

pub not_going : {A E : Type 0} {old new : State} {e : E} → Marks {A = A} old new (Err e) → TellsGoing old new false
not_going marks = record { leaves = λ inside up. marks.leaves inside up; clean = marks.clean; stops = λ inside. marks.stops; up = λ sure is. absurd (true≢false (sym is)) }

module _ {A E : Type 0} {old mid : State} {x : A} (marks : Marks {E = E} old mid (Ok x)) where
  since_marked : IsInBatch old → IsInChange old.marks old.now mid
  since_marked inside up = (marks.leaves inside up).since

  pub going_if : {B F : Type 0} {new : State} (r : Result B F) → Releases mid new r → TellsGoing old new (is_ok r)
  going_if {B} {F} {new} r released = record {
    leaves = λ inside up. left r inside (released.leaves old.marks old.now (since_marked inside) up);
    clean = let one = marks.clean in let two = released.clean in omega (arith, one, two);
    stops = λ inside sure db may.
        let two = released.clean in
        let sure_mid : HasCleanDisk mid = omega (arith, two, sure) in
        marks.stops sure_mid db ((uncommitted_of r (released.stops old.marks old.now (since_marked inside))).leaves (marks.up sure_mid).1 sure db may);
    up = λ sure is. opens r (released.up sure) is;
  }
    where
      left : (r : Result B F) → IsInBatch old → LeavesReleased mid new r → LeavesGoing (is_ok r) old new
      left (Ok y) inside it =
          let first = marks.leaves inside it.was_open in
          record { was_open = first.was_open; now = it.now ∙ first.now; committed = it.committed ∙ first.committed; batch = it.batch }
      left (Err e) inside it =
          let first = marks.leaves inside it.was_open in
          record { was_open = first.was_open; committed = it.committed ∙ first.committed; serves = it.serves }

      uncommitted_of : (r : Result B F) → Stops mid new r → IsUncommitted mid new
      uncommitted_of (Ok y) it = it.stops
      uncommitted_of (Err e) it = it

      opens : (r : Result B F) → OnOk r (IsTrue mid.is_open × IsTrue new.is_open) → is_ok r ≡ true → IsTrue new.is_open
      opens (Ok y) it is = it.1
      opens (Err e) it is = absurd (true≢false (sym is))
