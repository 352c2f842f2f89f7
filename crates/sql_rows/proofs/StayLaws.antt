-- Parts of a transaction that commit nothing, whatever the tables have.
use Rattle.std.proofs.Common.{◌≡◌, ◌⊎◌, ℕ, List, Option, Some, None, Ok, Err, Result, IsTrue, IfOk, IfErr, IsOk, OnOk, true, false, if◌then◌else◌, refl, ap, ◌∙◌, inl, inr}
use Rattle.sqlite_value.specs.Order.{Row}
use Rattle.sqlite_schema.specs.declared.command.Returning.{Returning}
use Rattle.sqlite.specs.declared.error.Error.{Error}
use Rattle.sqlite.specs.declared.error.Error.TheVariants.{SqliteFailure}
use Rattle.sqlite.specs.declared.error.ErrorCode.TheVariants.{TransactionState}
use Rattle.sqlite.specs.declared.transaction.Transaction.{Transaction}
use Rattle.sqlite.specs.Clock.{timed}
use Rattle.sqlite.specs.Held.{state}
use Rattle.sqlite.specs.State.{State, HasCleanDisk, Survives, Shown, ShowsRows, FailsToQuery, IsTooLate, ExecutesInside}
use Rattle.sqlite.specs.Store.{Ghosts}
use Rattle.sql_rows.specs.Kept.{Leaves}
use Rattle.sql_rows.specs.Opening.{IsBegun, StaysInside}
use Rattle.sql_rows.proofs.CreateLemmas.{made_leaves, made_mode}
use Rattle.sql_rows.proofs.StoreLemmas.{failed_was}
use Rattle.sql_rows.proofs.TxLemmas.{leaves_self, leaves_then}
use Rattle.sql_rows.proofs.TxReads.{failed_nothing}

-- what it found, and how it leaves the transaction
abbrev GoesOn : State → State → Type 0
GoesOn old new = IsTrue old.is_open × (new.committed ≡ old.committed) × (new.in_transaction ≡ true)

module _ (sql : List ℕ) (params : Row) (old new : State) (begun : IsBegun old) where
  shown_goes_on : (rows : List Row) → Shown sql params old new rows → GoesOn old new
  unfolding Shown
  shown_goes_on rows h = go h.0.returning h.2
    where
      go : (o : Option Returning) → ShowsRows old new sql h.0 (timed params h.0.formats h.1.now) rows o → GoesOn old new
      go None it = (it.3.0.was_open, it.3.0.committed_is, it.3.0.mode ∙ begun it.3.0.was_open)
      go (Some what) it =
          let shows = it.1.shown in
          (shows.was_open, shows.committed_is ∙ ap (λ b. if b then old.committed else new.now) (begun shows.was_open), shows.mode ∙ begun shows.was_open)

  failed_leaves : (e : Error) → IsTrue new.is_open → FailsToQuery sql params old new e ⊎ IsTooLate sql params old new e → IsTrue old.is_open × (new.committed ≡ old.committed)
  failed_leaves e up (inl failed) = failed_nothing sql params old new (begun (failed_was sql params old new e up failed)) e up failed
  failed_leaves e up (inr late) = (late.5.0.was_open, late.5.0.committed_is)

  module _ {V : Type 0} (items : V → List Row) (survives : Survives old new (λ _. ⊥)) (clean : IsTrue new.is_open → HasCleanDisk new) where
    pub asked_leaves : (r : Result V Error) → (HasCleanDisk new → IfOk r (λ v. Shown sql params old new (items v))) → (HasCleanDisk new → IfErr r (λ e. FailsToQuery sql params old new e ⊎ IsTooLate sql params old new e)) → Leaves old new
    asked_leaves (Ok v) ok err = record {
      was_open = λ up. (shown_goes_on (items v) (ok (clean up))).0;
      committed = λ up. (shown_goes_on (items v) (ok (clean up))).1;
      survives = survives;
    }
    asked_leaves (Err e) ok err = record {
      was_open = λ up. (failed_leaves e up (err (clean up))).0;
      committed = λ up. (failed_leaves e up (err (clean up))).1;
      survives = survives;
    }

    pub asked_begun : (r : Result V Error) → (HasCleanDisk new → IfOk r (λ v. Shown sql params old new (items v))) → OnOk r (IsBegun new)
    asked_begun (Ok v) ok = λ up. (shown_goes_on (items v) (ok (clean up))).2
    asked_begun (Err e) ok = tt

pub on_ok : {A B E F : Type 0} (P : Type 0) (r : Result A E) (q : Result B F) → OnOk q (IsOk r) → OnOk r P → OnOk q P
on_ok P (Ok x) (Ok y) ok is = is
on_ok P (Ok x) (Err e) ok is = tt
on_ok P (Err d) (Ok y) ok is = absurd cc
on_ok P (Err d) (Err e) ok is = tt

module _ {S : Type 0} {g : Ghosts S} where
  -- a SELECT
  pub stays_asked : {V : Type 0} (items : V → List Row) (sql : List ℕ) (params : Row) {old new : Transaction S} {r : Result V Error} → new.conn.ghost_name ≡ old.conn.ghost_name → (HasCleanDisk (state g new.conn.now) → IfOk r (λ v. Shown sql params (state g old.conn.now) (state g new.conn.now) (items v)))
      → (HasCleanDisk (state g new.conn.now) → IfErr r (λ e. FailsToQuery sql params (state g old.conn.now) (state g new.conn.now) e ⊎ IsTooLate sql params (state g old.conn.now) (state g new.conn.now) e)) → Survives (state g old.conn.now) (state g new.conn.now) (λ _. ⊥)
      → (IsTrue (state g new.conn.now).is_open → HasCleanDisk (state g new.conn.now)) → StaysInside g old new r
  stays_asked {V} items sql params {old} {new} {r} same ok err survives clean = record {
    same_reference = same;
    leaves = λ begun. asked_leaves sql params (state g old.conn.now) (state g new.conn.now) begun items survives clean r ok err;
    begun = λ begun. asked_begun sql params (state g old.conn.now) (state g new.conn.now) begun items survives clean r ok;
  }

  -- a statement that writes
  pub stays_ran : (sql : List ℕ) (params : Row) {old new : Transaction S} {r : Result ℕ Error} → new.conn.ghost_name ≡ old.conn.ghost_name
      → (HasCleanDisk (state g new.conn.now) → IsTrue (state g old.conn.now).in_transaction → ExecutesInside 0 sql params (state g old.conn.now) (state g new.conn.now) r)
      → ((state g old.conn.now).in_transaction ≡ false → (r ≡ Err (SqliteFailure TransactionState)) × (new.conn.now ≡ old.conn.now)) → Survives (state g old.conn.now) (state g new.conn.now) (λ _. ⊥)
      → (IsTrue (state g new.conn.now).is_open → HasCleanDisk (state g new.conn.now)) → StaysInside g old new r
  stays_ran sql params {old} {new} {r} same ran ended survives clean = record {
    same_reference = same;
    leaves = λ begun. made_leaves (state g) old.conn.now new.conn.now sql params r ran ended survives clean;
    begun = λ begun. made_mode (state g) old.conn.now new.conn.now sql params r ran ended survives clean;
  }

  -- nothing is done
  pub stays_self : {A E : Type 0} {tx : Transaction S} {r : Result A E} → StaysInside g tx tx r
  stays_self {A} {E} {tx} {r} = record { same_reference = refl; leaves = λ begun. leaves_self (state g tx.conn.now); begun = λ begun. go r begun }
    where
      go : (r : Result A E) → IsBegun (state g tx.conn.now) → OnOk r (IsBegun (state g tx.conn.now))
      go (Ok x) begun = begun
      go (Err e) begun = tt

  -- another answer, which is no success where the one wasn't
  pub stays_as : {A B E F : Type 0} {old new : Transaction S} {r : Result A E} {q : Result B F} → StaysInside g old new r → OnOk q (IsOk r) → StaysInside g old new q
  stays_as {A} {B} {E} {F} {old} {new} {r} {q} part ok = record { same_reference = part.same_reference; leaves = part.leaves; begun = λ begun. on_ok (IsBegun (state g new.conn.now)) r q ok (part.begun begun) }

  -- one part after another
  pub stays_then : {A B E F : Type 0} {a b c : Transaction S} {x : A} {r : Result B F} → StaysInside {E = E} g a b (Ok x) → StaysInside g b c r → StaysInside g a c r
  stays_then {A} {B} {E} {F} {a} {b} {c} p q = record {
    same_reference = q.same_reference ∙ p.same_reference;
    leaves = λ begun. leaves_then (state g a.conn.now) (state g b.conn.now) (state g c.conn.now) (p.leaves begun) (q.leaves (p.begun begun));
    begun = λ begun. q.begun (p.begun begun);
  }
