-- What the store says of a change and of a flush, by what the connection says of them.
use Rattle.std.proofs.Common.{◌≡◌, ◌⊎◌, ◌∙◌, ℕ, Bool, List, true, false, IsTrue, Result, Ok, Err, inl, inr, refl, sym, ap, subst, true≢false, arith}
use Rattle.sqlite_trees.specs.Tree.{Trees}
use Rattle.sqlite_trees.specs.declared.store.Store.{Ghosts}
use Rattle.sqlite.specs.Effect.{Database}
use Rattle.sqlite.specs.Held.{Held, state}
use Rattle.sqlite.specs.State.{State, HasCleanDisk}
use Rattle.hub_rows.specs.Changes.{EditFits, edit}
use Rattle.hub_rows.specs.Rows.{Rows}
use Rattle.hub_rows.specs.Stops.{HasOnRecord, FindsOld, FindsOldOr, PutsOnRecord, StaysOnRecord}
use Rattle.hub_rows.specs.StoreView.{StoreView}
use Rattle.hub_rows.specs.WellFormed.{WellFormedRows}
use Rattle.hub_rows.specs.declared.change.Edit.{Edit}
use Rattle.hub_rows.specs.declared.store.StoreFault.{StoreFault}
use Rattle.hub_rows.proofs.WellFormedLaws.{well_formed-edit}
use Rattle.sql_rows.specs.Kept.{IsInBatch, IsMade, IsServing, IsUncommitted, StaysOpen, changes_in}
use Rattle.sql_rows.specs.Opening.{IsOurs}
use Rattle.sql_rows.specs.TypedTables.{rows_of}
use Rattle.sql_edits.specs.declared.batches.NotMade.{NotMade}
use Rattle.sql_edits.specs.declared.batches.NotMade.TheVariants.{Alone, WithBatch}
use Rattle.sql_edits.specs.Batches.{Added, Adds, AddsMore, Begun, Commits, CommitsIf, Committed, IsCounted, KeepsLast, Undoes, same_rows}
use Rattle.sql_edits.specs.Ready.{IsReady, MayEdit}
use Rattle.store_sql.specs.Store.{HoldsAll, Keeps, KeepsIfOurs, SqlView, sql_rows, sql_view, IsCleanSql}
use Rattle.store_sql.proofs.StopLaws.{IsDisk, IsKeeping, last_rows, has_last, record_is, was_clean}

-- what was on record is found
pub finds_old : {S : Type 0} (g : Ghosts S) (inside : SqlView S) (made : Rows) → FindsOldOr made (sql_view g inside) (sql_view g inside)
finds_old g inside made on_record was r found = let it = was.alone r found in (it.0.ours, inl it.1)

pub finds_alone : {S : Type 0} (g : Ghosts S) (inside : SqlView S) → FindsOld (sql_view g inside) (sql_view g inside)
finds_alone g inside on_record was r found = let it = was.alone r found in (it.0.ours, it.1)

pub finds_either : (made : Rows) (old new : StoreView) → FindsOld old new → FindsOldOr made old new
finds_either made old new finds on_record was r found = let it = finds on_record was r found in (it.0, inl it.1)

-- a flush after a change that waits
pub flush_after : (made : Rows) (old mid new : StoreView) → (mid.clean → old.clean) → StaysOnRecord old mid → (mid.clean → mid.rows ≡ made) → FindsOldOr mid.rows mid new → FindsOldOr made old new
flush_after made old mid new was_clean stays is flushed on_record was r found =
    let it = flushed on_record (stays on_record was) r found in
    (it.0, elim it.1 [ inl before ↦ inl before | inr after ↦ inr (was_clean after.0, after.1 ∙ is after.0) ])

-- a store whose changes are gone keeps what it kept
pub keeps_lost : {n w : ℕ} {lost : Bool} (taken s : State) → KeepsIfOurs taken s n w lost → KeepsIfOurs taken s n w true
keeps_lost taken s keeps ours up =
    let was = keeps ours up in
    record { serves = was.serves; now = λ kept. absurd (true≢false kept); last = was.last; counted = was.counted; rested = λ kept none. absurd (true≢false kept) }

-- one that keeps the last commit does too, where it has lost changes, or else none waits and no batch is open
pub keeps_last : {n w : ℕ} {lost : Bool} (taken old new : State) (gone : Bool) → KeepsIfOurs taken old n w lost → (IsOurs taken → IsTrue new.is_open → KeepsLast old new) → (gone ≡ false → (w ≡ 0) × (new.in_transaction ≡ false)) → KeepsIfOurs taken new n w gone
keeps_last taken old new gone keeps left none ours up =
    let it = left ours up in
    let was = keeps ours it.was_open in
    record {
      serves = it.serves;
      now = λ kept. subst (λ (d : Database). WellFormedRows (rows_of d.trees)) (sym it.committed ∙ it.serves.settled (none kept).1) was.last;
      last = subst (λ (d : Database). WellFormedRows (rows_of d.trees)) (sym it.committed) was.last;
      counted = was.counted ∙ sym (ap (λ (d : Database). changes_in d.trees) it.committed);
      rested = λ kept zero. (none kept).1;
    }

-- the batch of changes that wait is open
pub begun_of : {s : State} {waiting : ℕ} {lost : Bool} → HoldsAll s waiting lost → (waiting ≡ 0 → ⊥) → s.in_transaction ≡ true
begun_of whole some = elim whole.begun [ inl none ↦ absurd (some none) | inr begun ↦ begun ]

may_edit : (op : List ℕ) (change : Edit) (s : State) → s.in_transaction ≡ true → IsReady op change s → MayEdit op change s
may_edit op change s begun ready up = let it = ready up in (record { serves = it.0; begun = begun }, it.1, it.2)

-- one whose batch is as it was keeps what it kept
pub keeps_begun : {n w : ℕ} {lost : Bool} {old new : State} → Begun old new → Keeps old n w lost → (w ≡ 0 → ⊥) → Keeps new n w lost
keeps_begun it was some = record {
  serves = it.batch.serves;
  now = λ kept. subst (λ (d : Database). WellFormedRows (rows_of d.trees)) (sym it.now) (was.now kept);
  last = subst (λ (d : Database). WellFormedRows (rows_of d.trees)) (sym it.committed) was.last;
  counted = was.counted ∙ sym (ap (λ (d : Database). changes_in d.trees) it.committed);
  rested = λ kept none. absurd (some none);
}

-- `inside` is the store by its fields
module _ {S : Type 0} (g : Ghosts S) (disk : IsDisk g) (inside : SqlView S) (keeps : IsKeeping g inside) (whole : HoldsAll (state g inside.conn) inside.waiting inside.lost) where
  pub clean_if : IsOurs (state g inside.taken) → IsTrue (state g inside.conn).is_open → IsCleanSql g inside
  clean_if ours up = record { ours = ours; up = up; good = (keeps ours up).now whole.kept; all = whole }

  pub in_batch : (inside.waiting ≡ 0 → ⊥) → (IsTrue (state g inside.conn).is_open → IsOurs (state g inside.taken)) → IsInBatch (state g inside.conn)
  in_batch some ours up = record { serves = (keeps (ours up) up).serves; begun = begun_of whole some }

  -- ---- a change

  module _ (op : List ℕ) (change : Edit) (fits : IsCleanSql g inside → EditFits op change (sql_rows g inside)) where
    ready : (IsTrue (state g inside.conn).is_open → IsOurs (state g inside.taken)) → IsReady op change (state g inside.conn)
    ready ours up = let it = clean_if (ours up) up in ((keeps it.ours up).serves, it.good, fits it)

    -- one that is made
    module _ {A E : Type 0} (x : A) (conn : Held S) (waiting : ℕ) (some : waiting ≡ 0 → ⊥) (made : IsReady op change (state g inside.conn) → Adds {A = A} {E = E} (IsMade (edit op change)) (state g inside.conn) (state g conn) (Ok x)) where
      abbrev after : SqlView S
      after = record inside { conn = conn; waiting = waiting }

      added : IsOurs (state g inside.taken) → IsTrue (state g conn).is_open → Added (IsMade (edit op change)) (state g inside.conn) (state g conn)
      added ours up = (made (ready (λ _. ours))).leaves up

      good_after : IsOurs (state g inside.taken) → IsTrue (state g conn).is_open → WellFormedRows (rows_of (state g conn).now.trees)
      good_after ours up =
          let it = added ours up in
          let was = clean_if ours it.was_open in
          subst WellFormedRows (sym it.edit) (well_formed-edit op change (sql_rows g inside) was.good (fits was))

      pub added_keeps : IsKeeping g after
      added_keeps ours up =
          let it = added ours up in
          let was = keeps ours it.was_open in
          record {
            serves = it.batch.serves;
            now = λ kept. good_after ours up;
            last = subst (λ (d : Database). WellFormedRows (rows_of d.trees)) (sym it.committed) was.last;
            counted = was.counted ∙ sym (ap (λ (d : Database). changes_in d.trees) it.committed);
            rested = λ kept none. absurd (some none);
          }

      pub added_clean : IsCleanSql g after → IsCleanSql g inside
      added_clean clean = clean_if clean.ours (added clean.ours clean.up).was_open

      pub added_rows : IsCleanSql g after → sql_rows g after ≡ edit op change (sql_rows g inside)
      added_rows clean = (added clean.ours clean.up).edit

      stays_open : (IsTrue (state g inside.conn).is_open → IsOurs (state g inside.taken)) → StaysOpen (state g inside.conn) (state g conn)
      stays_open ours = (made (ready ours)).stops

      clean_at : (on_record : Rows) → HasOnRecord on_record (sql_view g inside) → HasCleanDisk (state g conn) → IsCleanSql g inside
      clean_at on_record was sure = was_clean g disk inside on_record was (λ shut. let doubts = (stays_open (λ up. absurd (true≢false (sym up ∙ shut)))).stops.clean in omega (arith, doubts, sure))

      pub added_stays : StaysOnRecord (sql_view g inside) (sql_view g after)
      added_stays on_record was = has_last g disk after on_record
          (λ sure.
          let old = clean_at on_record was sure in
          let up = (stays_open (λ _. old.ours)).up old.up sure in
          record { ours = old.ours; up = up; good = good_after old.ours up; all = record { kept = whole.kept; begun = inr (added old.ours up).batch.begun } })
          (λ clean. let it = added clean.ours clean.up in ap (λ (d : Database). rows_of d.trees) it.committed ∙ record_is g disk inside on_record was it.was_open)

    -- one that fails, and is undone
    module _ {A E : Type 0} (e : E) (mid conn : Held S) (gone : Bool) (made : IsReady op change (state g inside.conn) → Adds {A = A} {E = E} (IsMade (edit op change)) (state g inside.conn) (state g mid) (Err e))
        (undoes : Undoes (state g mid) (state g conn)) (none : gone ≡ false → (inside.waiting ≡ 0) × ((state g conn).in_transaction ≡ false)) where
      abbrev undone : SqlView S
      undone = record inside { conn = conn; lost = gone }

      left : IsOurs (state g inside.taken) → IsTrue (state g conn).is_open → KeepsLast (state g inside.conn) (state g conn)
      left ours up =
          let failed = λ (between : IsTrue (state g mid).is_open). (made (ready (λ _. ours))).leaves between in
          let back = undoes.leaves (λ between. (failed between).serves) up in
          let first = failed back.was_open in
          record { was_open = first.was_open; committed = back.committed ∙ first.committed; serves = back.serves }

      pub undone_keeps : IsKeeping g undone
      undone_keeps = keeps_last (state g inside.taken) (state g inside.conn) (state g conn) gone keeps left none

      pub undone_clean : IsCleanSql g undone → IsCleanSql g inside
      undone_clean clean = clean_if clean.ours (left clean.ours clean.up).was_open

      pub undone_rows : IsCleanSql g undone → sql_rows g undone ≡ sql_rows g inside
      undone_rows clean =
          let it = left clean.ours clean.up in
          let was = keeps clean.ours it.was_open in
          let over = none clean.all.kept in
          ap (λ (d : Database). rows_of d.trees) (sym (it.serves.settled over.1) ∙ it.committed ∙ was.serves.settled (was.rested whole.kept over.0))

      pub undone_finds : FindsOld (sql_view g inside) (sql_view g undone)
      undone_finds on_record was r found =
          let back = undoes.clean in
          let clean = found.0 in
          let sure_mid : HasCleanDisk (state g mid) = omega (arith, back, clean) in
          let stops : (IsTrue (state g inside.conn).is_open → IsOurs (state g inside.taken)) → IsUncommitted (state g inside.conn) (state g mid) = λ ours. (made (ready ours)).stops in
          let old = was_clean g disk inside on_record was (λ shut. let doubts = (stops (λ up. absurd (true≢false (sym up ∙ shut)))).clean in omega (arith, doubts, sure_mid)) in
          let it = stops (λ _. old.ours) in
          let doubts = it.clean in
          let sure : HasCleanDisk (state g inside.conn) = omega (arith, doubts, sure_mid) in
          (old.ours, (was.alone r (sure, found.1, it.leaves old.up sure_mid found.1 (undoes.stops found.0 found.1 found.2), found.3)).1)

    -- one that fails, and is undone alone
    module _ {A : Type 0} (f : StoreFault) (conn : Held S) (some : inside.waiting ≡ 0 → ⊥) (made : MayEdit op change (state g inside.conn) → AddsMore {A = A} (IsMade (edit op change)) (state g inside.conn) (state g conn) (Err (Alone f))) where
      abbrev alone : SqlView S
      alone = record inside { conn = conn }

      may : (IsTrue (state g inside.conn).is_open → IsOurs (state g inside.taken)) → MayEdit op change (state g inside.conn)
      may ours = may_edit op change (state g inside.conn) (begun_of whole some) (ready ours)

      begun_again : IsOurs (state g inside.taken) → IsTrue (state g conn).is_open → Begun (state g inside.conn) (state g conn)
      begun_again ours up = (made (may (λ _. ours))).leaves up

      pub alone_keeps : IsKeeping g alone
      alone_keeps ours up = keeps_begun (begun_again ours up) (keeps ours (begun_again ours up).was_open) some

      pub alone_clean : IsCleanSql g alone → IsCleanSql g inside
      alone_clean clean = clean_if clean.ours (begun_again clean.ours clean.up).was_open

      pub alone_rows : IsCleanSql g alone → sql_rows g alone ≡ sql_rows g inside
      alone_rows clean = ap (λ (d : Database). rows_of d.trees) (begun_again clean.ours clean.up).now

      pub alone_finds : FindsOld (sql_view g inside) (sql_view g alone)
      alone_finds on_record was r found =
          let stops : (IsTrue (state g inside.conn).is_open → IsOurs (state g inside.taken)) → StaysOpen (state g inside.conn) (state g conn) = λ ours. (made (may ours)).stops in
          let sure_conn = found.0 in
          let old = was_clean g disk inside on_record was (λ shut. let doubts = (stops (λ up. absurd (true≢false (sym up ∙ shut)))).stops.clean in omega (arith, doubts, sure_conn)) in
          let it = (stops (λ _. old.ours)).stops in
          let doubts = it.clean in
          let sure : HasCleanDisk (state g inside.conn) = omega (arith, doubts, sure_conn) in
          (old.ours, (was.alone r (sure, found.1, it.leaves old.up found.0 found.1 found.2, found.3)).1)

  -- ---- a commit

  module _ {Begins : State → Type 0} (begins : (IsTrue (state g inside.conn).is_open → IsOurs (state g inside.taken)) → Begins (state g inside.conn)) (f : Rows → Rows) (good : IsCleanSql g inside → WellFormedRows (f (sql_rows g inside))) where
    -- one that is made
    module _ {A E : Type 0} (x : A) (conn : Held S) (changes : ℕ) (made : CommitsIf {A = A} {E = E} Begins (IsCounted f changes) (state g inside.conn) (state g conn) (Ok x)) where
      abbrev flushed : SqlView S
      flushed = record inside { conn = conn; changes = changes; waiting = 0 }

      committed : IsOurs (state g inside.taken) → IsTrue (state g conn).is_open → Committed (IsCounted f changes) (state g inside.conn) (state g conn)
      committed ours up = made.leaves (begins (λ _. ours)) up

      good_flushed : IsOurs (state g inside.taken) → IsTrue (state g conn).is_open → WellFormedRows (rows_of (state g conn).now.trees)
      good_flushed ours up = let it = committed ours up in subst WellFormedRows (sym it.edit.rows) (good (clean_if ours it.was_open))

      pub flushed_keeps : IsKeeping g flushed
      flushed_keeps ours up =
          let it = committed ours up in
          record {
            serves = it.serves;
            now = λ kept. good_flushed ours up;
            last = subst (λ (d : Database). WellFormedRows (rows_of d.trees)) (sym it.committed) (good_flushed ours up);
            counted = sym it.edit.counted ∙ sym (ap (λ (d : Database). changes_in d.trees) it.committed);
            rested = λ kept none. it.ended;
          }

      pub flushed_clean : IsCleanSql g flushed → IsCleanSql g inside
      flushed_clean clean = clean_if clean.ours (committed clean.ours clean.up).was_open

      pub flushed_rows : IsCleanSql g flushed → sql_rows g flushed ≡ f (sql_rows g inside)
      flushed_rows clean = (committed clean.ours clean.up).edit.rows

      clean_flush : (on_record : Rows) → HasOnRecord on_record (sql_view g inside) → HasCleanDisk (state g conn) → IsCleanSql g inside
      clean_flush on_record was sure = was_clean g disk inside on_record was (λ shut. let doubts = made.clean (begins (λ up. absurd (true≢false (sym up ∙ shut)))) in omega (arith, doubts, sure))

      pub flushed_stopped : FindsOldOr (f (sql_rows g inside)) (sql_view g inside) (sql_view g flushed)
      flushed_stopped on_record was r found =
          let old = clean_flush on_record was found.0 in
          let begun = begins (λ _. old.ours) in
          let doubts = made.clean begun in
          let sure : HasCleanDisk (state g inside.conn) = let clean = found.0 in omega (arith, doubts, clean) in (
            old.ours,
            elim (made.crash begun old.up found.0 found.1 found.2) [
              | inl before ↦ inl (was.alone r (sure, found.1, before, found.3)).1
              | inr counted ↦ inr (old, found.3 ∙ counted.rows)
            ],
          )

      pub flushed_puts : PutsOnRecord (sql_view g inside) (sql_view g flushed)
      flushed_puts on_record was = has_last g disk flushed (sql_rows g flushed)
          (λ sure.
          let old = clean_flush on_record was sure in
          let up = made.up (begins (λ _. old.ours)) old.up sure in
          record { ours = old.ours; up = up; good = good_flushed old.ours up; all = record { kept = whole.kept; begun = inl refl } })
          (λ clean. ap (λ (d : Database). rows_of d.trees) (committed clean.ours clean.up).committed)

    -- one that fails, and is undone
    module _ {A E : Type 0} (e : E) (mid conn : Held S) (changes : ℕ) (gone : Bool) (made : CommitsIf {A = A} {E = E} Begins (IsCounted f changes) (state g inside.conn) (state g mid) (Err e)) (undoes : Undoes (state g mid) (state g conn))
        (none : gone ≡ false → (inside.waiting ≡ 0) × ((state g conn).in_transaction ≡ false)) where
      abbrev failed : SqlView S
      failed = record inside { conn = conn; lost = gone }

      last_left : IsOurs (state g inside.taken) → IsTrue (state g conn).is_open → KeepsLast (state g inside.conn) (state g conn)
      last_left ours up =
          let stopped = λ (between : IsTrue (state g mid).is_open). made.leaves (begins (λ _. ours)) between in
          let back = undoes.leaves (λ between. (stopped between).serves) up in
          let first = stopped back.was_open in
          record { was_open = first.was_open; committed = back.committed ∙ first.committed; serves = back.serves }

      pub failed_keeps : IsKeeping g failed
      failed_keeps = keeps_last (state g inside.taken) (state g inside.conn) (state g conn) gone keeps last_left none

      pub failed_clean : IsCleanSql g failed → IsCleanSql g inside
      failed_clean clean = clean_if clean.ours (last_left clean.ours clean.up).was_open

      pub failed_rows : IsCleanSql g failed → sql_rows g failed ≡ sql_rows g inside
      failed_rows clean =
          let it = last_left clean.ours clean.up in
          let was = keeps clean.ours it.was_open in
          let over = none clean.all.kept in
          ap (λ (d : Database). rows_of d.trees) (sym (it.serves.settled over.1) ∙ it.committed ∙ was.serves.settled (was.rested whole.kept over.0))

      pub failed_stopped : FindsOldOr (f (sql_rows g inside)) (sql_view g inside) (sql_view g failed)
      failed_stopped on_record was r found =
          let back = undoes.clean in
          let clean = found.0 in
          let sure_mid : HasCleanDisk (state g mid) = omega (arith, back, clean) in
          let old = was_clean g disk inside on_record was (λ shut. let doubts = made.clean (begins (λ up. absurd (true≢false (sym up ∙ shut)))) in omega (arith, doubts, sure_mid)) in
          let begun = begins (λ _. old.ours) in
          let doubts = made.clean begun in
          let sure : HasCleanDisk (state g inside.conn) = omega (arith, doubts, sure_mid) in (
            old.ours,
            elim (made.crash begun old.up sure_mid found.1 (undoes.stops found.0 found.1 found.2)) [
              | inl before ↦ inl (was.alone r (sure, found.1, before, found.3)).1
              | inr counted ↦ inr (old, found.3 ∙ counted.rows)
            ],
          )

-- ---- calls of the store

-- a change is added to those that wait
pub record AddsTo {S : Type 0} (g : Ghosts S) (op : List ℕ) (change : Edit) (old new : SqlView S) : Type 0 where
  pub keeps : IsKeeping g new
  pub was_clean : IsCleanSql g new → IsCleanSql g old
  pub rows : IsCleanSql g new → sql_rows g new ≡ edit op change (sql_rows g old)
  pub stays : StaysOnRecord (sql_view g old) (sql_view g new)

-- a call that fails leaves the rows, or a store that isn't clean
pub record LeavesRows {S : Type 0} (g : Ghosts S) (old new : SqlView S) : Type 0 where
  pub keeps : IsKeeping g new
  pub was_clean : IsCleanSql g new → IsCleanSql g old
  pub rows : IsCleanSql g new → sql_rows g new ≡ sql_rows g old

-- a change that fails isn't on record
pub record AddsNone {S : Type 0} (g : Ghosts S) (old new : SqlView S) : Type 0 where
  pub left : LeavesRows g old new
  pub finds : FindsOld (sql_view g old) (sql_view g new)

-- a commit that fails leaves what was on record, or what it was to make
pub record CommitsNone {S : Type 0} (g : Ghosts S) (f : Rows → Rows) (old new : SqlView S) : Type 0 where
  pub left : LeavesRows g old new
  pub stopped : FindsOldOr (f (sql_rows g old)) (sql_view g old) (sql_view g new)

-- rows are committed that this makes of those of the store
pub record CommitsAll {S : Type 0} (g : Ghosts S) (f : Rows → Rows) (old new : SqlView S) : Type 0 where
  pub keeps : IsKeeping g new
  pub was_clean : IsCleanSql g new → IsCleanSql g old
  pub rows : IsCleanSql g new → sql_rows g new ≡ f (sql_rows g old)
  pub stopped : FindsOldOr (f (sql_rows g old)) (sql_view g old) (sql_view g new)
  pub puts : PutsOnRecord (sql_view g old) (sql_view g new)

abbrev pub HoldsAllOf : {S : Type 0} → Ghosts S → SqlView S → Type 0
HoldsAllOf g s = HoldsAll (state g s.conn) s.waiting s.lost

module _ {S : Type 0} (g : Ghosts S) (disk : IsDisk g) (inside old : SqlView S) (view_is : inside ≡ old) (keeps : IsKeeping g inside) (whole : HoldsAllOf g old) where
  whole_inside : HoldsAllOf g inside
  whole_inside = subst (HoldsAllOf g) (sym view_is) whole

  module _ {Begins : State → Type 0} (begins : (IsTrue (state g inside.conn).is_open → IsOurs (state g inside.taken)) → Begins (state g inside.conn)) (f : Rows → Rows) (good : IsCleanSql g inside → WellFormedRows (f (sql_rows g inside))) where
    commits_all : {A E : Type 0} (x : A) (conn : Held S) (changes : ℕ) → CommitsIf {A = A} {E = E} Begins (IsCounted f changes) (state g inside.conn) (state g conn) (Ok x) → CommitsAll g f old (record inside { conn = conn; changes = changes; waiting = 0 })
    commits_all x conn changes made = subst (λ o. CommitsAll g f o (record inside { conn = conn; changes = changes; waiting = 0 })) view_is (record {
      keeps = flushed_keeps g disk inside keeps whole_inside begins f good x conn changes made;
      was_clean = flushed_clean g disk inside keeps whole_inside begins f good x conn changes made;
      rows = flushed_rows g disk inside keeps whole_inside begins f good x conn changes made;
      stopped = flushed_stopped g disk inside keeps whole_inside begins f good x conn changes made;
      puts = flushed_puts g disk inside keeps whole_inside begins f good x conn changes made;
    })

    commits_none : {A E : Type 0} (e : E) (mid conn : Held S) (changes : ℕ) (gone : Bool) → CommitsIf {A = A} {E = E} Begins (IsCounted f changes) (state g inside.conn) (state g mid) (Err e) → Undoes (state g mid) (state g conn)
        → (gone ≡ false → (inside.waiting ≡ 0) × ((state g conn).in_transaction ≡ false)) → CommitsNone g f old (record inside { conn = conn; lost = gone })
    commits_none e mid conn changes gone made undoes none = subst (λ o. CommitsNone g f o (record inside { conn = conn; lost = gone })) view_is (record {
      left = record {
        keeps = failed_keeps g disk inside keeps whole_inside begins f good e mid conn changes gone made undoes none;
        was_clean = failed_clean g disk inside keeps whole_inside begins f good e mid conn changes gone made undoes none;
        rows = failed_rows g disk inside keeps whole_inside begins f good e mid conn changes gone made undoes none;
      };
      stopped = failed_stopped g disk inside keeps whole_inside begins f good e mid conn changes gone made undoes none;
    })

  module _ (op : List ℕ) (change : Edit) (fits : IsCleanSql g old → EditFits op change (sql_rows g old)) where
    fits_inside : IsCleanSql g inside → EditFits op change (sql_rows g inside)
    fits_inside = subst (λ o. IsCleanSql g o → EditFits op change (sql_rows g o)) (sym view_is) fits

    -- one that is made
    pub adds_to : {A E : Type 0} (x : A) (conn : Held S) (waiting : ℕ) → (waiting ≡ 0 → ⊥) → (IsReady op change (state g inside.conn) → Adds {A = A} {E = E} (IsMade (edit op change)) (state g inside.conn) (state g conn) (Ok x))
        → AddsTo g op change old (record inside { conn = conn; waiting = waiting })
    adds_to x conn waiting some made = subst (λ o. AddsTo g op change o (record inside { conn = conn; waiting = waiting })) view_is (record {
      keeps = added_keeps g disk inside keeps whole_inside op change fits_inside x conn waiting some made;
      was_clean = added_clean g disk inside keeps whole_inside op change fits_inside x conn waiting some made;
      rows = added_rows g disk inside keeps whole_inside op change fits_inside x conn waiting some made;
      stays = added_stays g disk inside keeps whole_inside op change fits_inside x conn waiting some made;
    })

    -- one that fails, and is undone with those that wait
    pub adds_none : {A E : Type 0} (e : E) (mid conn : Held S) (gone : Bool) → (IsReady op change (state g inside.conn) → Adds {A = A} {E = E} (IsMade (edit op change)) (state g inside.conn) (state g mid) (Err e)) → Undoes (state g mid) (state g conn)
        → (gone ≡ false → (inside.waiting ≡ 0) × ((state g conn).in_transaction ≡ false)) → AddsNone g old (record inside { conn = conn; lost = gone })
    adds_none e mid conn gone made undoes none = subst (λ o. AddsNone g o (record inside { conn = conn; lost = gone })) view_is (record {
      left = record {
        keeps = undone_keeps g disk inside keeps whole_inside op change fits_inside e mid conn gone made undoes none;
        was_clean = undone_clean g disk inside keeps whole_inside op change fits_inside e mid conn gone made undoes none;
        rows = undone_rows g disk inside keeps whole_inside op change fits_inside e mid conn gone made undoes none;
      };
      finds = undone_finds g disk inside keeps whole_inside op change fits_inside e mid conn gone made undoes none;
    })

    module _ (some_old : old.waiting ≡ 0 → ⊥) where
      some : inside.waiting ≡ 0 → ⊥
      some none = some_old (ap (λ (s : SqlView S). s.waiting) (sym view_is) ∙ none)

      -- what is said of a change in a batch
      as_first : {A E : Type 0} {x : A} {y : A} {new : State} → (MayEdit op change (state g inside.conn) → AddsMore (IsMade (edit op change)) (state g inside.conn) new (Ok x)) → IsReady op change (state g inside.conn) → Adds {A = A} {E = E} (IsMade (edit op change)) (state g inside.conn) new (Ok y)
      as_first made ready = let it = made (may_edit op change (state g inside.conn) (begun_of whole_inside some) ready) in record { leaves = it.leaves; stops = it.stops }

      as_failed : {A : Type 0} {f : StoreFault} {new : State} → (MayEdit op change (state g inside.conn) → AddsMore {A = A} (IsMade (edit op change)) (state g inside.conn) new (Err (WithBatch f))) → IsReady op change (state g inside.conn) → Adds {A = A} (IsMade (edit op change)) (state g inside.conn) new (Err f)
      as_failed made ready = let it = made (may_edit op change (state g inside.conn) (begun_of whole_inside some) ready) in record { leaves = it.leaves; stops = it.stops }

      pub more_to : {A : Type 0} (x : A) (conn : Held S) (waiting : ℕ) → (waiting ≡ 0 → ⊥) → (MayEdit op change (state g inside.conn) → AddsMore {A = A} (IsMade (edit op change)) (state g inside.conn) (state g conn) (Ok x))
          → AddsTo g op change old (record inside { conn = conn; waiting = waiting })
      more_to x conn waiting more made = adds_to {E = StoreFault} x conn waiting more (as_first made)

      -- by the name of the fault
      named : {A : Type 0} {m n : NotMade} (new : State) → m ≡ n → (MayEdit op change (state g inside.conn) → AddsMore {A = A} (IsMade (edit op change)) (state g inside.conn) new (Err m)) → MayEdit op change (state g inside.conn) → AddsMore {A = A} (IsMade (edit op change)) (state g inside.conn) new (Err n)
      named {A} new is made may = subst (λ k. AddsMore {A = A} (IsMade (edit op change)) (state g inside.conn) new (Err k)) is (made may)

      pub more_none : {A : Type 0} {m : NotMade} (f : StoreFault) → m ≡ WithBatch f → (mid conn : Held S) → (MayEdit op change (state g inside.conn) → AddsMore {A = A} (IsMade (edit op change)) (state g inside.conn) (state g mid) (Err m)) → Undoes (state g mid) (state g conn)
          → AddsNone g old (record inside { conn = conn; lost = true })
      more_none {A} f is mid conn said undoes = adds_none f mid conn true (as_failed {A = A} (named (state g mid) is said)) undoes (λ kept. absurd (true≢false kept))

      pub more_alone : {A : Type 0} {m : NotMade} (f : StoreFault) → m ≡ Alone f → (conn : Held S) → (MayEdit op change (state g inside.conn) → AddsMore {A = A} (IsMade (edit op change)) (state g inside.conn) (state g conn) (Err m)) → AddsNone g old (record inside { conn = conn })
      more_alone {A} f is conn said = let made = named {A = A} (state g conn) is said in subst (λ o. AddsNone g o (record inside { conn = conn })) view_is (record {
        left = record {
          keeps = alone_keeps g disk inside keeps whole_inside op change fits_inside f conn some made;
          was_clean = alone_clean g disk inside keeps whole_inside op change fits_inside f conn some made;
          rows = alone_rows g disk inside keeps whole_inside op change fits_inside f conn some made;
        };
        finds = alone_finds g disk inside keeps whole_inside op change fits_inside f conn some made;
      })

    -- one that is committed at once
    ready_at : (IsTrue (state g inside.conn).is_open → IsOurs (state g inside.taken)) → IsReady op change (state g inside.conn)
    ready_at = ready g disk inside keeps whole_inside op change fits_inside

    good_made : IsCleanSql g inside → WellFormedRows (edit op change (sql_rows g inside))
    good_made clean = well_formed-edit op change (sql_rows g inside) clean.good (fits_inside clean)

    pub commits_change : {A E : Type 0} (x : A) (conn : Held S) (changes : ℕ) → CommitsIf {A = A} {E = E} (IsReady op change) (IsCounted (edit op change) changes) (state g inside.conn) (state g conn) (Ok x)
        → CommitsAll g (edit op change) old (record inside { conn = conn; changes = changes; waiting = 0 })
    commits_change x conn changes made = commits_all ready_at (edit op change) good_made x conn changes made

    pub commits_no_change : {A E : Type 0} (e : E) (mid conn : Held S) (changes : ℕ) (gone : Bool) → CommitsIf {A = A} {E = E} (IsReady op change) (IsCounted (edit op change) changes) (state g inside.conn) (state g mid) (Err e) → Undoes (state g mid) (state g conn)
        → (gone ≡ false → (inside.waiting ≡ 0) × ((state g conn).in_transaction ≡ false)) → CommitsNone g (edit op change) old (record inside { conn = conn; lost = gone })
    commits_no_change e mid conn changes gone made undoes none = commits_none ready_at (edit op change) good_made e mid conn changes gone made undoes none

  -- ---- a flush

  module _ (some : inside.waiting ≡ 0 → ⊥) where
    in_batch_at : (IsTrue (state g inside.conn).is_open → IsOurs (state g inside.taken)) → IsInBatch (state g inside.conn)
    in_batch_at = in_batch g disk inside keeps whole_inside some

    pub flushes : {A E : Type 0} (x : A) (conn : Held S) (changes : ℕ) → Commits {A = A} {E = E} (IsCounted same_rows changes) (state g inside.conn) (state g conn) (Ok x) → CommitsAll g same_rows old (record inside { conn = conn; changes = changes; waiting = 0 })
    flushes x conn changes made = commits_all in_batch_at same_rows (λ clean. clean.good) x conn changes made

    pub flushes_none : {A E : Type 0} (e : E) (mid conn : Held S) (changes : ℕ) → Commits {A = A} {E = E} (IsCounted same_rows changes) (state g inside.conn) (state g mid) (Err e) → Undoes (state g mid) (state g conn) → CommitsNone g same_rows old (record inside { conn = conn; lost = true })
    flushes_none e mid conn changes made undoes = commits_none in_batch_at same_rows (λ clean. clean.good) e mid conn changes true made undoes (λ kept. absurd (true≢false kept))

-- a store that finds its changes gone
pub lost_leaves : {S : Type 0} (g : Ghosts S) (inside old : SqlView S) → inside ≡ old → IsKeeping g inside → CommitsNone g same_rows old (record inside { lost = true })
lost_leaves g inside old view_is keeps = subst (λ o. CommitsNone g same_rows o (record inside { lost = true })) view_is (record {
  left = record {
    keeps = keeps_lost (state g inside.taken) (state g inside.conn) keeps;
    was_clean = λ clean. absurd (true≢false clean.all.kept);
    rows = λ clean. absurd (true≢false clean.all.kept);
  };
  stopped = finds_old g inside (sql_rows g inside);
})
