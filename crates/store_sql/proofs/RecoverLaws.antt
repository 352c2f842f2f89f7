-- What the store says as it looks for the changes that wait, by what the connection says.
use Rattle.std.proofs.Common.{◌≡◌, ◌⊎◌, ◌≤◌, ◌∙◌, ℕ, Bool, true, false, not, IsTrue, Result, IsErr, Ok, Err, inl, inr, refl, sym, ap, subst, true≢false, arith}
use Rattle.sqlite_trees.specs.Tree.{Trees}
use Rattle.sqlite_trees.specs.View.{doubt}
use Rattle.sqlite_trees.specs.declared.store.Store.{Ghosts}
use Rattle.sqlite.specs.Effect.{Database}
use Rattle.sqlite.specs.Held.{Held, state}
use Rattle.sqlite.specs.State.{State, HasCleanDisk}
use Rattle.hub_rows.specs.declared.store.Recovered.{Recovered}
use Rattle.hub_rows.specs.declared.store.Recovered.TheVariants.{Renewed, Whole}
use Rattle.hub_rows.specs.Rows.{Rows}
use Rattle.hub_rows.specs.Stops.{FindsOnly, FindsSound, IsRenewed, IsWhole, Recovers}
use Rattle.hub_rows.specs.WellFormed.{WellFormedRows}
use Rattle.sql_rows.specs.Kept.{changes_in}
use Rattle.sql_rows.specs.Opening.{IsOurs}
use Rattle.sql_rows.specs.TypedTables.{rows_of}
use Rattle.sql_edits.specs.Batches.{Begun, IsRested, KeepsLast, Rested, TellsGoing, Tries, Undoes}
use Rattle.store_sql.specs.Store.{HoldsAll, SqlView, sql_rows, sql_view, sql_may_find, IsCleanSql}
use Rattle.store_sql.proofs.StopLaws.{IsDisk, IsKeeping, finds_last, last_rows, over_if}
use Rattle.store_sql.proofs.ChangeLaws.{HoldsAllOf, clean_if, in_batch, keeps_begun, keeps_last}

-- nothing more is on record
abbrev pub FindsNoMore : {S : Type 0} → Ghosts S → SqlView S → SqlView S → Type 0
FindsNoMore g old new = FindsSound (sql_view g old) → (r : Rows) → sql_may_find g new r → sql_may_find g old r

-- whether all changes that wait are there
pub record TellsWhole {S : Type 0} (g : Ghosts S) (old new : SqlView S) (is_there : Bool) : Type 0 where
  pub keeps : IsKeeping g new
  pub whole : is_there ≡ true → IsWhole (sql_view g old) (sql_view g new)
  pub stopped : FindsNoMore g old new

-- the changes that wait are given up
pub record Renews {S : Type 0} (g : Ghosts S) (old new : SqlView S) : Type 0 where
  pub keeps : IsKeeping g new
  pub renewed : IsRenewed (sql_view g old) (sql_view g new)
  pub stopped : FindsNoMore g old new

-- that fails
pub record RenewsNone {S : Type 0} (g : Ghosts S) (old new : SqlView S) : Type 0 where
  pub keeps : IsKeeping g new
  pub stopped : FindsNoMore g old new

module _ {S : Type 0} (g : Ghosts S) (disk : IsDisk g) (inside : SqlView S) (keeps : IsKeeping g inside) where
  -- a connection that is open is ours
  abbrev IsOursIfOpen : Type 0
  IsOursIfOpen = IsTrue (state g inside.conn).is_open → IsOurs (state g inside.taken)

  ours_if : FindsSound (sql_view g inside) → IsOursIfOpen
  ours_if sound up = sound (last_rows g inside) (finds_last g disk inside up)

  ours_by : (rows : Rows) → FindsOnly rows (sql_view g inside) → IsOursIfOpen
  ours_by rows only up = (only (last_rows g inside) (finds_last g disk inside up)).0

  -- what is found after a call may have been found before it
  module _ (new : SqlView S) (clean : IsOursIfOpen → doubt (state g inside.conn).is_clean ≤ doubt (state g new.conn).is_clean)
      (crash : IsOursIfOpen → HasCleanDisk (state g new.conn) → (db : Trees) → (state g new.conn).may_leave db → (state g inside.conn).may_leave db) where
    found_before : IsOursIfOpen → (r : Rows) → sql_may_find g new r → sql_may_find g inside r
    found_before ours r found = let doubts = clean ours in let sure = found.0 in (omega (arith, doubts, sure), found.1, crash ours found.0 found.1 found.2, found.3)

    finds_no_more : FindsNoMore g inside new
    finds_no_more sound = found_before (ours_if sound)

    -- one that leaves all
    whole_if : (IsOurs (state g inside.taken) → HasCleanDisk (state g new.conn) → IsCleanSql g new) → (IsCleanSql g new → IsCleanSql g inside) → (IsCleanSql g new → sql_rows g new ≡ sql_rows g inside) → IsWhole (sql_view g inside) (sql_view g new)
    whole_if clean_new was_clean same = record {
      was_clean = was_clean;
      rows = same;
      on_record = λ rows only. record {
        alone = λ r found. let it = only r (found_before (ours_by rows only) r found) in (clean_new it.0 found.0, it.1);
        takes = λ is. let last = finds_last g disk new is.up in subst (sql_may_find g new) (only (last_rows g new) (found_before (ours_by rows only) (last_rows g new) last)).1 last;
      };
    }

  -- ---- a batch that goes on, or not

  module _ (whole : HoldsAll (state g inside.conn) inside.waiting inside.lost) (some : inside.waiting ≡ 0 → ⊥) (conn : Held S) where
    module _ (tells : TellsGoing (state g inside.conn) (state g conn) true) where
      abbrev going : SqlView S
      going = record inside { conn = conn }

      begun : IsOurs (state g inside.taken) → IsTrue (state g conn).is_open → Begun (state g inside.conn) (state g conn)
      begun ours up = tells.leaves (in_batch g disk inside keeps whole some (λ _. ours)) up

      pub tells_going : TellsWhole g inside going true
      tells_going = record {
        keeps = λ ours up. let it = begun ours up in keeps_begun it (keeps ours it.was_open) some;
        whole = λ is. whole_if going (λ ours. tells.clean) (λ ours. tells.stops (in_batch g disk inside keeps whole some ours))
            (λ ours sure.
            let up = tells.up sure refl in
            let it = begun ours up in
            record { ours = ours; up = up; good = subst (λ (d : Database). WellFormedRows (rows_of d.trees)) (sym it.now) ((keeps ours it.was_open).now whole.kept); all = record { kept = whole.kept; begun = inr it.batch.begun } })
            (λ clean. clean_if g disk inside keeps whole clean.ours (begun clean.ours clean.up).was_open)
            (λ clean. ap (λ (d : Database). rows_of d.trees) (begun clean.ours clean.up).now);
        stopped = finds_no_more going (λ ours. tells.clean) (λ ours. tells.stops (in_batch g disk inside keeps whole some ours));
      }

    module _ (tells : TellsGoing (state g inside.conn) (state g conn) false) where
      abbrev gone : SqlView S
      gone = record inside { conn = conn; lost = true }

      pub tells_gone : TellsWhole g inside gone false
      tells_gone = record {
        keeps = keeps_last (state g inside.taken) (state g inside.conn) (state g conn) true keeps (λ ours up. tells.leaves (in_batch g disk inside keeps whole some (λ _. ours)) up) (λ kept. absurd (true≢false kept));
        whole = λ is. absurd (true≢false (sym is));
        stopped = finds_no_more gone (λ ours. tells.clean) (λ ours. tells.stops (in_batch g disk inside keeps whole some ours));
      }

  -- ---- a connection without a batch, tried

  module _ {A E : Type 0} (mid conn : Held S) (rested : IsOursIfOpen → IsRested (state g mid)) (r : Result A E) (tries : Tries (state g mid) (state g conn) r)
      (before_clean : doubt (state g inside.conn).is_clean ≤ doubt (state g mid).is_clean) (before : HasCleanDisk (state g mid) → (db : Trees) → (state g mid).may_leave db → (state g inside.conn).may_leave db)
      (same : IsOursIfOpen → IsTrue (state g mid).is_open → IsTrue (state g inside.conn).is_open × ((state g mid).committed.trees ≡ (state g inside.conn).committed.trees)) where
    tried_clean : IsOursIfOpen → doubt (state g inside.conn).is_clean ≤ doubt (state g conn).is_clean
    tried_clean ours = let after = tries.clean (rested ours) in omega (arith, before_clean, after)

    tried_crash : IsOursIfOpen → HasCleanDisk (state g conn) → (db : Trees) → (state g conn).may_leave db → (state g inside.conn).may_leave db
    tried_crash ours sure db may =
        let after = tries.clean (rested ours) in
        elim (tries.stops (rested ours) sure db may) [
          | inl was ↦ before (omega (arith, after, sure)) db was
          | inr last ↦ let first = same ours last.0 in subst (state g inside.conn).may_leave (sym (last.1 ∙ first.1)) (disk.stays inside.conn.store first.0)
        ]

  module _ (whole : HoldsAll (state g inside.conn) inside.waiting inside.lost) (none : inside.waiting ≡ 0) where
    resting : IsOursIfOpen → IsRested (state g inside.conn)
    resting ours up = let it = keeps (ours up) up in record { serves = it.serves; over = it.rested whole.kept none }

    unmoved : IsOursIfOpen → IsTrue (state g inside.conn).is_open → IsTrue (state g inside.conn).is_open × ((state g inside.conn).committed.trees ≡ (state g inside.conn).committed.trees)
    unmoved ours up = (up, refl)

    module _ {A E : Type 0} (conn : Held S) (x : A) (tries : Tries {E = E} (state g inside.conn) (state g conn) (Ok x)) where
      abbrev still : SqlView S
      still = record inside { conn = conn }

      rests : IsOurs (state g inside.taken) → IsTrue (state g conn).is_open → Rested (state g inside.conn) (state g conn)
      rests ours up = tries.leaves (resting (λ _. ours)) up

      still_clean : IsOursIfOpen → doubt (state g inside.conn).is_clean ≤ doubt (state g conn).is_clean
      still_clean = tried_clean inside.conn conn resting (Ok x) tries (omega arith) (λ sure db may. may) unmoved

      still_crash : IsOursIfOpen → HasCleanDisk (state g conn) → (db : Trees) → (state g conn).may_leave db → (state g inside.conn).may_leave db
      still_crash = tried_crash inside.conn conn resting (Ok x) tries (omega arith) (λ sure db may. may) unmoved

      pub tells_still : TellsWhole g inside still true
      tells_still = record {
        keeps = λ ours up.
            let it = rests ours up in
            let was = keeps ours it.was_open in
            record {
              serves = it.resting.serves;
              now = λ kept. subst (λ t. WellFormedRows (rows_of t)) (sym it.now) (was.now kept);
              last = subst (λ t. WellFormedRows (rows_of t)) (sym it.committed) was.last;
              counted = was.counted ∙ sym (ap changes_in it.committed);
              rested = λ kept zero. it.resting.over;
            };
        whole = λ is. whole_if still still_clean still_crash
            (λ ours sure.
            let up = tries.up (resting (λ _. ours)) sure in
            let it = rests ours up in
            record { ours = ours; up = up; good = subst (λ t. WellFormedRows (rows_of t)) (sym it.now) ((keeps ours it.was_open).now whole.kept); all = record { kept = whole.kept; begun = inl none } })
            (λ clean. clean_if g disk inside keeps whole clean.ours (rests clean.ours clean.up).was_open)
            (λ clean. ap rows_of (rests clean.ours clean.up).now);
        stopped = finds_no_more still still_clean still_crash;
      }

    module _ {A E : Type 0} (conn : Held S) (e : E) (tries : Tries {A = A} (state g inside.conn) (state g conn) (Err e)) where
      abbrev unsure : SqlView S
      unsure = record inside { conn = conn; lost = true }

      pub tells_unsure : TellsWhole g inside unsure false
      tells_unsure = record {
        keeps = keeps_last (state g inside.taken) (state g inside.conn) (state g conn) true keeps (λ ours up. tries.leaves (resting (λ _. ours)) up) (λ kept. absurd (true≢false kept));
        whole = λ is. absurd (true≢false (sym is));
        stopped = finds_no_more unsure (tried_clean inside.conn conn resting (Err e) tries (omega arith) (λ sure db may. may) unmoved) (tried_crash inside.conn conn resting (Err e) tries (omega arith) (λ sure db may. may) unmoved);
      }

  -- ---- changes that are given up

  module _ (mid : Held S) (undoes : Undoes (state g inside.conn) (state g mid)) where
    back : IsOursIfOpen → IsTrue (state g mid).is_open → KeepsLast (state g inside.conn) (state g mid)
    back ours up = undoes.leaves (λ was. (keeps (ours was) was).serves) up

    pub undone_only : RenewsNone g inside (record inside { conn = mid; lost = true })
    undone_only = record {
      keeps = keeps_last (state g inside.taken) (state g inside.conn) (state g mid) true keeps (λ ours up. back (λ _. ours) up) (λ kept. absurd (true≢false kept));
      stopped = finds_no_more (record inside { conn = mid; lost = true }) (λ ours. undoes.clean) (λ ours. undoes.stops);
    }

    module _ (over : (state g mid).in_transaction ≡ false) (conn : Held S) where
      rested_back : IsOursIfOpen → IsRested (state g mid)
      rested_back ours up = record { serves = (back ours up).serves; over = over }

      last_back : IsOursIfOpen → IsTrue (state g mid).is_open → IsTrue (state g inside.conn).is_open × ((state g mid).committed.trees ≡ (state g inside.conn).committed.trees)
      last_back ours up = let it = back ours up in (it.was_open, ap (λ (d : Database). d.trees) it.committed)

      module _ {A E : Type 0} (r : Result A E) (tries : Tries (state g mid) (state g conn) r) where
        back_clean : IsOursIfOpen → doubt (state g inside.conn).is_clean ≤ doubt (state g conn).is_clean
        back_clean = tried_clean mid conn rested_back r tries undoes.clean undoes.stops last_back

        back_crash : IsOursIfOpen → HasCleanDisk (state g conn) → (db : Trees) → (state g conn).may_leave db → (state g inside.conn).may_leave db
        back_crash = tried_crash mid conn rested_back r tries undoes.clean undoes.stops last_back

      pub renews_none : {A E : Type 0} (e : E) → Tries {A = A} (state g mid) (state g conn) (Err e) → RenewsNone g inside (record inside { conn = conn; lost = true })
      renews_none {A} {E} e tries = record {
        keeps = keeps_last (state g inside.taken) (state g inside.conn) (state g conn) true keeps left (λ kept. absurd (true≢false kept));
        stopped = finds_no_more (record inside { conn = conn; lost = true }) (back_clean (Err e) tries) (back_crash (Err e) tries);
      }
        where
          left : IsOurs (state g inside.taken) → IsTrue (state g conn).is_open → KeepsLast (state g inside.conn) (state g conn)
          left ours up =
              let it = tries.leaves (rested_back (λ _. ours)) up in
              let first = back (λ _. ours) it.was_open in
              record { was_open = first.was_open; committed = it.committed ∙ first.committed; serves = it.serves }

      module _ {A E : Type 0} (x : A) (tries : Tries {E = E} (state g mid) (state g conn) (Ok x)) where
        abbrev renewed : SqlView S
        renewed = record inside { conn = conn; waiting = 0; lost = false }

        tried : IsOurs (state g inside.taken) → IsTrue (state g conn).is_open → Rested (state g mid) (state g conn)
        tried ours up = tries.leaves (rested_back (λ _. ours)) up

        last_trees : IsOurs (state g inside.taken) → IsTrue (state g conn).is_open → (state g conn).committed.trees ≡ (state g inside.conn).committed.trees
        last_trees ours up = let it = tried ours up in it.committed ∙ (last_back (λ _. ours) it.was_open).1

        now_last : IsOurs (state g inside.taken) → IsTrue (state g conn).is_open → (state g conn).committed.trees ≡ (state g conn).now.trees
        now_last ours up = let it = tried ours up in ap (λ (d : Database). d.trees) (it.resting.serves.settled it.resting.over)

        good_last : IsOurs (state g inside.taken) → IsTrue (state g conn).is_open → WellFormedRows (rows_of (state g conn).committed.trees)
        good_last ours up = subst (λ t. WellFormedRows (rows_of t)) (sym (last_trees ours up)) (keeps ours (last_back (λ _. ours) (tried ours up).was_open).0).last

        clean_renewed : IsOurs (state g inside.taken) → HasCleanDisk (state g conn) → IsCleanSql g renewed
        clean_renewed ours sure =
            let up = tries.up (rested_back (λ _. ours)) sure in
            record { ours = ours; up = up; good = subst (λ t. WellFormedRows (rows_of t)) (now_last ours up) (good_last ours up); all = record { kept = refl; begun = inl refl } }

        found_there : IsOursIfOpen → (r : Rows) → sql_may_find g renewed r → sql_may_find g inside r
        found_there = found_before renewed (back_clean (Ok x) tries) (back_crash (Ok x) tries)

        finds_rows : (clean : IsCleanSql g renewed) → sql_may_find g renewed (sql_rows g renewed)
        finds_rows clean = subst (sql_may_find g renewed) (ap rows_of (now_last clean.ours clean.up)) (finds_last g disk renewed clean.up)

        pub renews : Renews g inside renewed
        renews = record {
          keeps = λ ours up. record {
            serves = (tried ours up).resting.serves;
            now = λ kept. subst (λ t. WellFormedRows (rows_of t)) (now_last ours up) (good_last ours up);
            last = good_last ours up;
            counted = (keeps ours (last_back (λ _. ours) (tried ours up).was_open).0).counted ∙ sym (ap changes_in (last_trees ours up));
            rested = λ kept zero. (tried ours up).resting.over;
          };
          renewed = record {
            rows = λ clean. found_there (λ _. clean.ours) (sql_rows g renewed) (finds_rows clean);
            kept = λ sound. record {
              alone = λ r found.
                  let clean = clean_renewed (sound r (found_there (ours_if sound) r found)) found.0 in
                  (clean, found.3 ∙ ap rows_of (disk.settled conn.store found.1 clean.up found.2 ∙ now_last clean.ours clean.up));
              takes = finds_rows;
            };
          };
          stopped = finds_no_more renewed (back_clean (Ok x) tries) (back_crash (Ok x) tries);
        }

-- ---- calls of the store

module _ {S : Type 0} (g : Ghosts S) (disk : IsDisk g) (inside old : SqlView S) (view_is : inside ≡ old) (keeps : IsKeeping g inside) where
  module _ (whole : HoldsAllOf g old) where
    whole_inside : HoldsAllOf g inside
    whole_inside = subst (HoldsAllOf g) (sym view_is) whole

    waits_inside : old.waiting ≡ inside.waiting
    waits_inside = ap (λ (s : SqlView S). s.waiting) (sym view_is)

    pub batch_there : (old.waiting ≡ 0 → ⊥) → (conn : Held S) {b : Bool} → b ≡ true → TellsGoing (state g inside.conn) (state g conn) b → TellsWhole g old (record inside { conn = conn }) true
    batch_there some conn is tells = subst (λ o. TellsWhole g o (record inside { conn = conn }) true) view_is (tells_going g disk inside keeps whole_inside (λ none. some (waits_inside ∙ none)) conn (subst (TellsGoing (state g inside.conn) (state g conn)) is tells))

    pub batch_gone : (old.waiting ≡ 0 → ⊥) → (conn : Held S) {b : Bool} → b ≡ false → TellsGoing (state g inside.conn) (state g conn) b → TellsWhole g old (record inside { conn = conn; lost = true }) false
    batch_gone some conn is tells = subst (λ o. TellsWhole g o (record inside { conn = conn; lost = true }) false) view_is (tells_gone g disk inside keeps whole_inside (λ none. some (waits_inside ∙ none)) conn (subst (TellsGoing (state g inside.conn) (state g conn)) is tells))

    pub resting_there : {A E : Type 0} → old.waiting ≡ 0 → (conn : Held S) (x : A) → Tries {E = E} (state g inside.conn) (state g conn) (Ok x) → TellsWhole g old (record inside { conn = conn }) true
    resting_there none conn x tries = subst (λ o. TellsWhole g o (record inside { conn = conn }) true) view_is (tells_still g disk inside keeps whole_inside (sym waits_inside ∙ none) conn x tries)

    pub resting_gone : {A E : Type 0} → old.waiting ≡ 0 → (conn : Held S) (e : E) → Tries {A = A} (state g inside.conn) (state g conn) (Err e) → TellsWhole g old (record inside { conn = conn; lost = true }) false
    resting_gone none conn e tries = subst (λ o. TellsWhole g o (record inside { conn = conn; lost = true }) false) view_is (tells_unsure g disk inside keeps whole_inside (sym waits_inside ∙ none) conn e tries)

  module _ (mid : Held S) (undoes : Undoes (state g inside.conn) (state g mid)) where
    pub stays_undone : RenewsNone g old (record inside { conn = mid; lost = true })
    stays_undone = subst (λ o. RenewsNone g o (record inside { conn = mid; lost = true })) view_is (undone_only g disk inside keeps mid undoes)

    pub stays_lost : {A E : Type 0} → not mid.in_transaction ≡ true → (conn : Held S) (e : E) → Tries {A = A} (state g mid) (state g conn) (Err e) → RenewsNone g old (record inside { conn = conn; lost = true })
    stays_lost over conn e tries = subst (λ o. RenewsNone g o (record inside { conn = conn; lost = true })) view_is (renews_none g disk inside keeps mid undoes (over_if mid.in_transaction over) conn e tries)

    pub is_renewed : {A E : Type 0} → not mid.in_transaction ≡ true → (conn : Held S) (x : A) → Tries {E = E} (state g mid) (state g conn) (Ok x) → Renews g old (record inside { conn = conn; waiting = 0; lost = false })
    is_renewed over conn x tries = subst (λ o. Renews g o (record inside { conn = conn; waiting = 0; lost = false })) view_is (renews g disk inside keeps mid undoes (over_if mid.in_transaction over) conn x tries)

-- ---- both

module _ {S : Type 0} (g : Ghosts S) where
  pub recovers_whole : {E : Type 0} (old new : SqlView S) → IsWhole (sql_view g old) (sql_view g new) → FindsNoMore g old new → Recovers {E = E} (sql_view g old) (sql_view g new) (Ok Whole)
  recovers_whole old new whole stopped = record { whole = λ is. whole; renewed = λ is. let e = is in absurd cc; lost = tt; stopped = stopped }

  module _ (old mid late : SqlView S) (n : ℕ) (same : mid.taken ≡ old.taken) (same_late : late.taken ≡ mid.taken) (before : FindsNoMore g old mid) (after : FindsNoMore g mid late) where
    abbrev counted : SqlView S
    counted = record late { failures = n }

    sound_mid : FindsSound (sql_view g old) → FindsSound (sql_view g mid)
    sound_mid sound r found = subst (λ t. IsOurs (state g t)) (sym same) (sound r (before sound r found))

    stopped_late : FindsNoMore g old counted
    stopped_late sound r found = before sound r (after (sound_mid sound) r found)

    pub recovers_renewed : {E : Type 0} → IsRenewed (sql_view g mid) (sql_view g late) → Recovers {E = E} (sql_view g old) (sql_view g counted) (Ok Renewed)
    recovers_renewed it = record {
      whole = λ is. let e = is in absurd cc;
      renewed = λ is. record {
        rows = λ clean. before (λ r found. subst (λ t. IsOurs (state g t)) (same_late ∙ same) clean.ours) (sql_rows g late) (it.rows (record { ours = clean.ours; up = clean.up; good = clean.good; all = clean.all }));
        kept = λ sound. let kept = it.kept (sound_mid sound) in record {
          alone = λ r found. let at = kept.alone r found in (record { ours = at.0.ours; up = at.0.up; good = at.0.good; all = at.0.all }, at.1);
          takes = λ clean. kept.takes (record { ours = clean.ours; up = clean.up; good = clean.good; all = clean.all });
        };
      };
      lost = tt;
      stopped = stopped_late;
    }

    pub recovers_none : {E : Type 0} (q : Result Recovered E) → IsErr q → (IsCleanSql g late → ⊥) → Recovers (sql_view g old) (sql_view g counted) q
    recovers_none (Ok x) failed lost = absurd cc
    recovers_none (Err e) failed lost = record {
      whole = λ is. let e = is in absurd cc;
      renewed = λ is. let e = is in absurd cc;
      lost = λ clean. lost (record { ours = clean.ours; up = clean.up; good = clean.good; all = clean.all });
      stopped = stopped_late;
    }
