-- A database that is looked at, and what is said of it then.
use Rattle.std.proofs.Common.{◌≡◌, ◌⊎◌, ℕ, List, [], true, false, Ok, Err, Result, IsTrue, IfOk, IfErr, OnOk, OnErr, IsOk, IsErr, sym, ap, ◌∙◌, subst, inl, inr, arith, zero, suc}
use Rattle.sqlite_value.specs.Order.{Row}
use Rattle.sqlite.specs.declared.error.Error.{Error}
use Rattle.sqlite.specs.Effect.{Database}
use Rattle.sqlite.specs.State.{State, HasCleanDisk, Survives, IsRolledBack, IsUnchanged, IsNotRun}
use Rattle.sqlite.specs.Held.{Held, state}
use Rattle.sqlite.specs.Store.{Ghosts}
use Rattle.sqlite_trees.specs.Tree.{Trees}
use Rattle.sqlite_schema.specs.declared.schema.Schema.{Schema}
use Rattle.sql_tables.specs.Opening.{no_schema, schema_at}
use Rattle.sql_tables.specs.Tables.{first_tables, second_tables, third_tables, fourth_tables, hub_schema}
use Rattle.hub_rows.proofs.WellFormedLaws.{well_formed-no_rows}
use Rattle.hub_rows.specs.WellFormed.{WellFormedRows}
use Rattle.sql_rows.specs.TypedTables.{rows_of}
use Rattle.sql_rows.specs.Kept.{Leaves, Serves}
use Rattle.sql_rows.specs.Opening.{AreOurs, IsOurs, IsSpared, Prepares, IsRaised}
use Rattle.sql_rows.proofs.StoreLemmas.{serves_as}
use Rattle.sql_rows.proofs.TxLemmas.{leaves_then}

-- what was begun, asked and undone
module _ {S : Type 0} (g : Ghosts S) (old tx mid end : Held S) (begun : tx ≡ record old { in_transaction = true }) (settled : IsTrue (state g old).is_open → (state g old).committed ≡ (state g old).now) (autocommit : old.in_transaction ≡ false)
    (clean : IsTrue (state g end).is_open → HasCleanDisk (state g end))
    (asked : IsTrue (state g mid).is_open → IsTrue (state g tx).is_open × ((state g mid).committed ≡ (state g tx).committed)) (survives : Survives (state g tx) (state g mid) (λ _. ⊥))
    (undone : HasCleanDisk (state g end) → IsRolledBack (state g mid) (state g end)) (ended : end.in_transaction ≡ false) (ends : Survives (state g mid) (state g end) (λ _. ⊥)) where
  abbrev begins : Held S
  begins = record old { in_transaction = true }

  pub looked_spared : IsSpared (state g old) (state g end)
  looked_spared =
      let first : (IsTrue (state g mid).is_open → IsTrue (state g begins).is_open × ((state g mid).committed ≡ (state g begins).committed)) × Survives (state g begins) (state g mid) (λ _. ⊥)
      = subst (λ k. (IsTrue (state g mid).is_open → IsTrue (state g k).is_open × ((state g mid).committed ≡ (state g k).committed)) × Survives (state g k) (state g mid) (λ _. ⊥)) begun (asked, survives) in
      let back : IsTrue (state g end).is_open → IsRolledBack (state g mid) (state g end) = λ up. undone (clean up) in
      let was : IsTrue (state g end).is_open → IsTrue (state g old).is_open × ((state g mid).committed ≡ (state g old).committed) = λ up. first.0 ((back up).was_open up) in
      let whole : Leaves (state g begins) (state g end) = leaves_then (state g begins) (state g mid) (state g end)
      (record { was_open = λ up. (first.0 up).0; committed = λ up. (first.0 up).1; survives = first.1 })
      (record { was_open = λ up. (back up).was_open up; committed = λ up. ((back up).undone up).1; survives = ends }) in
      record {
        was_open = λ up. (was up).0;
        now = λ up. ((back up).undone up).0 ∙ (was up).1 ∙ settled (was up).0;
        committed = λ up. ((back up).undone up).1 ∙ (was up).1;
        mode = ended ∙ sym autocommit;
        survives = record { clean = whole.survives.clean; shield = whole.survives.shield; counts = whole.survives.counts; limit = whole.survives.limit; closes = whole.survives.closes; crash = whole.survives.crash };
      }

-- ---- a text is compiled

not_run : (sql : List ℕ) (params : Row) (old new : State) (e : Error) → (IsTrue old.is_open → old.committed ≡ old.now) → IsNotRun old new sql params e → IsTrue new.is_open → IsTrue old.is_open × (new.now ≡ old.now) × (new.committed ≡ old.committed)
unfolding IsNotRun
not_run sql params old new e settled (inl refused) up = (refused.1.0.was_open, refused.1.0.now_is, refused.1.0.committed_is)
not_run sql params old new e settled (inr failed) up = let was = failed.3.was_open up in let undone = failed.3.undone up in (was, undone.0 ∙ settled was, undone.1)

-- nothing changes
pub compiled_spared : {A : Type 0} (P : A → Type 0) (sql : List ℕ) (old new : State) (r : Result A Error) → (HasCleanDisk new → IfOk r (λ s. P s × IsUnchanged old new)) → (HasCleanDisk new → IfErr r (λ e. (params : Row) → IsNotRun old new sql params e))
    → Survives old new (λ _. ⊥) → (IsTrue old.is_open → old.committed ≡ old.now) → old.in_transaction ≡ false → new.in_transaction ≡ false → (IsTrue new.is_open → HasCleanDisk new) → IsSpared old new
compiled_spared {A} P sql old new r ok err survives settled before ended clean = record { was_open = λ up. (it up).0; now = λ up. (it up).1; committed = λ up. (it up).2; mode = ended ∙ sym before; survives = survives }
  where
    go : (r : Result A Error) → IfOk r (λ s. P s × IsUnchanged old new) → IfErr r (λ e. (params : Row) → IsNotRun old new sql params e) → IsTrue new.is_open → IsTrue old.is_open × (new.now ≡ old.now) × (new.committed ≡ old.committed)
    go (Ok x) ok err up = (ok.1.0.was_open, ok.1.0.now_is, ok.1.0.committed_is)
    go (Err e) ok err up = not_run sql [] old new e settled (err []) up

    it : IsTrue new.is_open → IsTrue old.is_open × (new.now ≡ old.now) × (new.committed ≡ old.committed)
    it up = go r (ok (clean up)) (err (clean up)) up

-- the same answer under another error
pub prepares_as : {A B E F : Type 0} (old new : State) (r : Result A E) (q : Result B F) → Prepares old new r → OnOk q (IsOk r) → OnErr q (IsErr r) → Prepares old new q
prepares_as old new (Ok a) (Ok b) p ok err = record { serves = p.serves; taken = p.taken; refused = p.refused; crash = p.crash; durable = p.durable; clean = p.clean; up = p.up }
prepares_as old new (Err d) (Err e) p ok err = record { serves = p.serves; taken = p.taken; refused = p.refused; crash = p.crash; durable = p.durable; clean = p.clean; up = p.up }
prepares_as old new (Ok a) (Err e) p ok err = absurd cc
prepares_as old new (Err d) (Ok b) p ok err = absurd cc

-- ---- what is prepared after a look is what was there before

module _ {A E : Type 0} (old mid new : State) (r : Result A E) (spared : IsSpared old mid) (opens : HasCleanDisk mid → IsTrue mid.is_open) (clean : IsTrue new.is_open → HasCleanDisk new) (prepared : Prepares mid new r) where
  mid_up : HasCleanDisk new → IsTrue mid.is_open
  mid_up sure = let doubts = prepared.clean in opens (omega (arith, doubts, sure))

  refused_before : (r : Result A E) → IsTrue mid.is_open → OnErr r (IsTrue mid.is_open × (new.now ≡ mid.now)) → OnErr r (IsTrue old.is_open × (new.now ≡ old.now))
  refused_before (Ok x) up refused = tt
  refused_before (Err e) up refused = (spared.was_open up, refused.1 ∙ spared.now up)

  pub prepared_then : Prepares old new r
  prepared_then = record {
    serves = λ ours up. prepared.serves (subst (λ (d : Database). (form : ℕ) → d.schema ≡ schema_at form → AreOurs form d.trees) (sym (spared.now (mid_up (clean up)))) ours) up;
    taken = λ up. subst (λ (d : Database). OnOk r (((d.schema ≡ hub_schema) × (new.now ≡ d)) ⊎ IsRaised d new.now.trees)) (spared.now (mid_up (clean up))) (prepared.taken up);
    refused = λ up. refused_before r (mid_up (clean up)) (prepared.refused up);
    crash = λ up sure db may. elim (prepared.crash (mid_up sure) sure db may) [
      | inl was ↦ inl (was ∙ ap (λ (d : Database). d.trees) (spared.committed (mid_up sure)))
      | inr raised ↦ inr (subst (λ (d : Database). IsRaised d db) (spared.now (mid_up sure)) raised)
    ];
    durable = prepared.durable;
    clean = let doubts = spared.survives.clean in let more = prepared.clean in omega (arith, doubts, more);
    up = prepared.up;
  }

-- ---- what is looked at after it was prepared is what was prepared

serves_spared : (old new : State) → Serves old → IsSpared old new → IsTrue new.is_open → Serves new
serves_spared old new was spared up = serves_as old new was (spared.now up) (spared.committed up) spared.mode

module _ {A E : Type 0} (old mid new : State) (x : A) (prepared : Prepares {A = A} {E = E} old mid (Ok x)) (spared : IsSpared mid new) (opens : HasCleanDisk new → IsTrue new.is_open) (clean : IsTrue new.is_open → HasCleanDisk new) where
  still_serves : IsOurs old → IsTrue new.is_open → Serves new × WellFormedRows (rows_of new.now.trees)
  still_serves ours up =
      let was = prepared.serves ours (spared.was_open up) in
      (serves_spared mid new was.0 spared up, subst (λ (d : Database). WellFormedRows (rows_of d.trees)) (sym (spared.now up)) was.1)

  left_before : HasCleanDisk new → (db : Trees) → new.may_leave db → mid.may_leave db
  left_before sure db may = elim (spared.survives.crash sure db may) [ inl was ↦ was | inr none ↦ absurd none ]

  pub still_prepared : Prepares {A = A} {E = E} old new (Ok x)
  still_prepared = record {
    serves = still_serves;
    taken = λ up. subst (λ (d : Database). ((old.now.schema ≡ hub_schema) × (d ≡ old.now)) ⊎ IsRaised old.now d.trees) (sym (spared.now up)) (prepared.taken (spared.was_open up));
    refused = λ up. tt;
    crash = λ up sure db may. let doubts = spared.survives.clean in prepared.crash up (omega (arith, doubts, sure)) db (left_before sure db may);
    durable = λ up db may. prepared.durable (spared.was_open up) db (left_before (clean up) db may) ∙ sym (ap (λ (d : Database). d.trees) (spared.now up));
    clean = let doubts = prepared.clean in let more = spared.survives.clean in omega (arith, doubts, more);
    up = opens;
  }

-- ---- an empty database

pub ours_empty : (s : State) → s.now.schema ≡ no_schema → IsOurs s
ours_empty s blank zero is = record { typed = tt; good = well_formed-no_rows; numbered = λ some. absurd (omega (arith, some)) }
ours_empty s blank (suc zero) is = absurd (let both : no_schema.tables ≡ first_tables.tables = ap (λ (c : Schema). c.tables) (sym blank ∙ is) in cc)
ours_empty s blank (suc (suc zero)) is = absurd (let both : no_schema.tables ≡ second_tables.tables = ap (λ (c : Schema). c.tables) (sym blank ∙ is) in cc)
ours_empty s blank (suc (suc (suc zero))) is = absurd (let both : no_schema.tables ≡ third_tables.tables = ap (λ (c : Schema). c.tables) (sym blank ∙ is) in cc)
ours_empty s blank (suc (suc (suc (suc zero)))) is = absurd (let both : no_schema.tables ≡ third_tables.tables = ap (λ (c : Schema). c.tables) (sym blank ∙ is) in cc)
ours_empty s blank (suc (suc (suc (suc (suc zero))))) is = absurd (let both : no_schema.tables ≡ fourth_tables.tables = ap (λ (c : Schema). c.tables) (sym blank ∙ is) in cc)
ours_empty s blank (suc (suc (suc (suc (suc (suc n)))))) is = absurd (let both : no_schema.tables ≡ hub_schema.tables = ap (λ (c : Schema). c.tables) (sym blank ∙ is) in cc)
