-- Transactions of any number of statements.
use Rattle.std.proofs.Common.{◌≡◌, ℕ, List, true, false, Ok, Err, Result, IsTrue, IsOk, IsErr, OnOk, OnErr, refl, sym, ◌∙◌, subst, inl, inr, arith}
use Rattle.std.proofs.lemmas.Bool.{cases_Bool}
use Rattle.sqlite_value.specs.Order.{Row}
use Rattle.sqlite_trees.specs.Tree.{Trees}
use Rattle.sqlite_schema.specs.Rules.{Obeys}
use Rattle.sqlite.specs.declared.error.Error.{Error}
use Rattle.sqlite.specs.declared.error.Error.TheVariants.{SqliteFailure}
use Rattle.sqlite.specs.declared.error.ErrorCode.TheVariants.{TransactionState}
use Rattle.sqlite.specs.declared.transaction.Transaction.{Transaction}
use Rattle.sqlite.specs.State.{State, HasCleanDisk, Survives, ExecutesInside}
use Rattle.sqlite.proofs.Callers.{runs_as}
use Rattle.sqlite.proofs.StateLemmas.{survives_then}
use Rattle.sqlite.specs.Held.{Held, state}
use Rattle.sqlite.specs.Store.{Ghosts}
use Rattle.sql_tables.specs.Tables.{hub_schema}
use Rattle.sql_rows.specs.Kept.{IsNumbered, IsServing, Within, IsInside, Leaves, Inside, Goes, MakesIn, rows_changed}
use Rattle.sql_rows.proofs.StoreLemmas.{MeansBy, written_runs}

pub leaves_then : (a b c : State) → Leaves a b → Leaves b c → Leaves a c
leaves_then a b c p q = record {
  was_open = λ up. p.was_open (q.was_open up);
  committed = λ up. q.committed up ∙ p.committed (q.was_open up);
  survives = survives_then a b c _ _ _ (λ _ db none. absurd none) (λ _ db none. absurd none) p.survives q.survives;
}

pub leaves_self : (a : State) → Leaves a a
leaves_self a = record {
  was_open = λ up. up;
  committed = λ up. refl;
  survives = record { clean = omega arith; shield = λ s. s; counts = omega arith; limit = refl; closes = λ clean up. inl up; crash = λ clean db left. inl left };
}

pub inside_self : (E : Trees → Trees → Type 0) (a : State) → IsInside a → E a.now.trees a.now.trees → Inside E a a
inside_self E a h none = record { leaves = leaves_self a; within = h; edit = λ up. none; numbered = λ up numbered. numbered; still = λ up clean. up }

-- one part after the other, whose edits are joined where the connection is open between them
pub inside_then : (F G H : Trees → Trees → Type 0) (a b c : State) → (IsTrue b.is_open → F a.now.trees b.now.trees → G b.now.trees c.now.trees → H a.now.trees c.now.trees) → Inside F a b → Inside G b c → Inside H a c
inside_then F G H a b c joined p q = record {
  leaves = leaves_then a b c p.leaves q.leaves;
  within = q.within;
  edit = λ up. let mid = q.leaves.was_open up in joined mid (p.edit mid) (q.edit up);
  numbered = λ up was. q.numbered up (p.numbered (q.leaves.was_open up) was);
  still = λ up clean. let before = q.leaves.survives.clean in q.still (p.still up (omega (arith, before, clean))) clean;
}

module _ {sql : List ℕ} {params : Row} {Edit : ℕ → Trees → Trees → Type 0} (means : MeansBy sql params Edit) where
  -- one statement of a transaction
  pub step : {H : Type 0} (state : H → State) (a b : H) (values : Row) (r : Result ℕ Error)
      → (HasCleanDisk (state b) → IsTrue (state a).in_transaction → ExecutesInside 0 sql values (state a) (state b) r)
      → ((state a).in_transaction ≡ false → (r ≡ Err (SqliteFailure TransactionState)) × (b ≡ a)) → Survives (state a) (state b) (λ _. ⊥) → values ≡ params → (IsTrue (state b).is_open → HasCleanDisk (state b)) → IsInside (state a)
      → Goes (Edit (rows_changed r)) (state a) (state b) r
  step state a b values r ran ended survives given clean h = elim (cases_Bool (state a).in_transaction) [
    | inl mode ↦ went r (λ c. subst (λ p. ExecutesInside 0 sql p (state a) (state b) r) given (ran c mode))
    | inr over ↦ let e = ended over in stays r e.0 e.1
  ]
    where
      stays : (r : Result ℕ Error) → r ≡ Err (SqliteFailure TransactionState) → b ≡ a → Goes (Edit (rows_changed r)) (state a) (state b) r
      stays (Ok n) e same = absurd cc
      stays (Err x) e same = record { ok = tt; err = subst (λ k. Leaves (state a) (state k)) (sym same) (leaves_self (state a)) }

      went : (r : Result ℕ Error) → (HasCleanDisk (state b) → ExecutesInside 0 sql params (state a) (state b) r) → Goes (Edit (rows_changed r)) (state a) (state b) r
      went (Err e) ran = record {
        ok = tt;
        err = record {
          was_open = λ up. elim (ran (clean up)) [ inl x ↦ elim x.1 [ inl same ↦ same.0.was_open | inr back ↦ back.was_open up ] | inr ends ↦ ends.2.0.was_open ];
          committed = λ up. elim (ran (clean up)) [ inl x ↦ elim x.1 [ inl same ↦ same.0.committed_is | inr back ↦ (back.undone up).1 ] | inr ends ↦ ends.2.0.committed_is ];
          survives = survives;
        };
      }
      went (Ok count) ran =
          let made : IsTrue (state b).is_open → Within (state b) × Edit count (state a).now.trees (state b).now.trees × (IsNumbered (state a).now.trees → IsNumbered (state b).now.trees) = λ up.
          let it = ran (clean up) in
          let was = h it.1.was_open in
          let w = written_runs (state a) (state b) means.command _ params count means.writes (runs_as sql params (state a) (state b) hub_schema was.schema means.command means.is means.plain count it.0) in
          let before : Obeys hub_schema (state a).now.trees = rw was.schema at was.sound.obeys in
          let d = means.does (state a).step_limit (state a) (state a).now _ w.tally (state b).now was.schema was.rows before w.changed in
          let both = d.2 (rw d.0 at w.sound.obeys) in
          (record { schema = d.0; sound = w.sound; rows = d.1; mode = it.1.mode }, subst (λ n. Edit n (state a).now.trees (state b).now.trees) (sym w.counted) both.0, both.1) in
          record {
            ok = record {
              leaves = record { was_open = λ up. (ran (clean up)).1.was_open; committed = λ up. (ran (clean up)).1.committed_is; survives = survives };
              within = λ up. (made up).0;
              edit = λ up. (made up).1;
              numbered = λ up. (made up).2;
              still = λ up c. (ran c).1.is_open;
            };
            err = tt;
          }

-- ---- parts of a transaction, one after the other

-- the same answer as another type
pub goes_as : {A B E F : Type 0} (Edit : Trees → Trees → Type 0) (a b : State) (r : Result A E) (q : Result B F) → OnOk q (IsOk r) → OnErr q (IsErr r) → Goes Edit a b r → Goes Edit a b q
goes_as Edit a b (Ok x) (Ok y) ok err g = record { ok = g.ok; err = tt }
goes_as Edit a b (Err x) (Err y) ok err g = record { ok = tt; err = g.err }
goes_as Edit a b (Ok x) (Err y) ok err g = absurd cc
goes_as Edit a b (Err x) (Ok y) ok err g = absurd cc

-- a statement of a transaction, whose answer is told as another type
pub makes_step : {sql : List ℕ} {params : Row} {Edit : ℕ → Trees → Trees → Type 0} → MeansBy sql params Edit → {S B F : Type 0} {g : Ghosts S} {old new : Transaction S} {values : Row} {r : Result ℕ Error} {q : Result B F} → new.conn.ghost_name ≡ old.conn.ghost_name
    → (HasCleanDisk (state g new.conn.now) → IsTrue (state g old.conn.now).in_transaction → ExecutesInside 0 sql values (state g old.conn.now) (state g new.conn.now) r)
    → ((state g old.conn.now).in_transaction ≡ false → (r ≡ Err (SqliteFailure TransactionState)) × (new.conn.now ≡ old.conn.now)) → Survives (state g old.conn.now) (state g new.conn.now) (λ _. ⊥) → values ≡ params → (IsTrue (state g new.conn.now).is_open → HasCleanDisk (state g new.conn.now))
    → OnOk q (IsOk r) → OnErr q (IsErr r) → MakesIn g (Edit (rows_changed r)) old new q
makes_step {sql} {params} {Edit} means {S} {B} {F} {g} {old} {new} {values} {r} {q} same ran ended survives given clean ok err = record {
  same_reference = same;
  goes = λ inside. goes_as (Edit (rows_changed r)) (state g old.conn.now) (state g new.conn.now) r q ok err (step means (state g) old.conn.now new.conn.now values r ran ended survives given clean inside);
}

-- what follows of the first part and of the second
pub goes_then : {A E : Type 0} (F G H : Trees → Trees → Type 0) (a b c : State) (r : Result A E) → (IsTrue b.is_open → F a.now.trees b.now.trees → G b.now.trees c.now.trees → H a.now.trees c.now.trees) → Inside F a b → Goes G b c r → Goes H a c r
goes_then F G H a b c (Ok x) joined first g = record { ok = inside_then F G H a b c joined first g.ok; err = tt }
goes_then F G H a b c (Err e) joined first g = record { ok = tt; err = leaves_then a b c first.leaves g.err }

-- ---- the begin of a transaction

pub begun_inside : {S : Type 0} (g : Ghosts S) (old tx : Held S) → tx ≡ record old { in_transaction = true } → IsServing (state g old) → IsInside (state g tx)
begun_inside g old tx begun h = subst (λ k. IsInside (state g k)) (sym begun) (λ up. let was = (h up).now in record { schema = was.schema; sound = was.sound; rows = was.rows; mode = refl })
