-- What a part of a transaction makes, and what a look-up inside it says, by the parts of which they consist.
use Rattle.std.proofs.Common.{◌≡◌, ◌∙◌, ap, subst, sym, ◌∷◌, List, [], Option, Result, Ok, Err, IfOk, IsErr, IsOk, IsTrue, OnOk, map, refl}
use Rattle.sqlite_trees.specs.Tree.{Trees}
use Rattle.sqlite_value.specs.Order.{Row}
use Rattle.sqlite.specs.declared.error.Error.{Error}
use Rattle.sqlite.specs.declared.transaction.Transaction.{Transaction}
use Rattle.sqlite.specs.Held.{state}
use Rattle.sqlite.specs.State.{State}
use Rattle.sqlite.specs.Store.{Ghosts}
use Rattle.hub_rows.specs.Keyed.{first, put_all}
use Rattle.sql_rows.specs.Kept.{AsksInsideIn, Goes, IsSame, Leaves, MakesIf, MakesIn, IsAny, ShowsAnyInside}
use Rattle.sql_rows.specs.TypedTable.{TypedTable, cmp, rows_in}
use Rattle.sql_edits.specs.Moving.{IsAnyRow}
use Rattle.sql_rows.proofs.RowEdits.{goes_if}
use Rattle.sql_rows.proofs.TxLemmas.{goes_then, inside_self, leaves_then}

if_ok : {A E : Type 0} {P Q : A → Type 0} (r : Result A E) → ((a : A) → P a → Q a) → IfOk r P → IfOk r Q
if_ok (Ok a) turn is = turn a is
if_ok (Err e) turn is = tt

-- what holds holds of an Ok
pub surely : {A E P : Type 0} (r : Result A E) → P → OnOk r P
surely (Ok x) p = p
surely (Err e) p = tt

-- of an error nothing is said of an Ok
pub never : {A E : Type 0} (P : Type 0) (r : Result A E) → IsErr r → OnOk r P
never P (Ok x) failed = absurd cc
never P (Err e) failed = tt

goes_err : {A E : Type 0} (Edit : Trees → Trees → Type 0) (a b : State) (q : Result A E) → IsErr q → Leaves a b → Goes Edit a b q
goes_err Edit a b (Ok x) failed left = absurd cc
goes_err Edit a b (Err e) failed left = record { ok = tt; err = left }

module _ {S : Type 0} {g : Ghosts S} where
  -- no part
  pub makes_none : {A E : Type 0} {Edit : Trees → Trees → Type 0} {tx : Transaction S} {x : A} → Edit (state g tx.conn.now).now.trees (state g tx.conn.now).now.trees → MakesIn {E = E} g Edit tx tx (Ok x)
  makes_none {A} {E} {Edit} {tx} {x} none = record {
    same_reference = refl;
    goes = λ inside. record { ok = inside_self Edit (state g tx.conn.now) inside none; err = tt };
  }

  -- the same, if more holds where it begins
  pub makes_if : {A E : Type 0} {First Begins : State → Type 0} {Edit : Trees → Trees → Type 0} {old new : Transaction S} {r : Result A E} → MakesIf g First Edit old new r → ((s : State) → Begins s → First s) → MakesIf g Begins Edit old new r
  makes_if {A} {E} {First} {Begins} {Edit} {old} {new} {r} part first = record { same_reference = part.same_reference; goes = λ begins. part.goes (first (state g old.conn.now) begins) }

  -- a look-up, by one of all rows
  pub asks_any : {V T F : Type 0} {items : V → List Row} {s : TypedTable T} {old new : Transaction S} {r : Result V Error} {q : Result (Option T) F} → ShowsAnyInside g items s old new r → OnOk q (IsOk r)
      → IfOk r (λ v. IfOk q (λ o. o ≡ first (put_all (cmp s) (map s.read (items v)) []))) → AsksInsideIn g old new q (λ db o. IsAnyRow (rows_in s db) o)
  asks_any {V} {T} {F} {items} {s} {old} {new} {r} {q} shows ok row =
      let before = state g old.conn.now in
      record {
        same_reference = shows.same_reference;
        found = λ inside up. any_found r q ok row (shows.ok inside up);
        goes = λ inside. goes_if IsSame before (state g new.conn.now) r q ok (shows.goes inside);
      }
    where
      all : List T
      all = rows_in s (state g old.conn.now).now.trees

      any_row : (xs : List T) (o : Option T) → IsAny all xs → o ≡ first (put_all (cmp s) xs []) → IsAnyRow all o
      any_row [] o none is = subst (IsAnyRow all) (sym is) none
      any_row (x ∷ xs) o one is = subst (IsAnyRow all) (sym (is ∙ ap (λ l. first (put_all (cmp s) (x ∷ l) [])) one.0)) one.1

      any_found : (r : Result V Error) (q : Result (Option T) F) → OnOk q (IsOk r) → IfOk r (λ v. IfOk q (λ o. o ≡ first (put_all (cmp s) (map s.read (items v)) []))) → IfOk r (λ v. IsAny all (map s.read (items v))) → IfOk q (IsAnyRow all)
      any_found (Ok v) (Ok o) ok is shown = any_row (map s.read (items v)) o shown is
      any_found (Ok v) (Err e) ok is shown = tt
      any_found (Err x) (Ok o) ok is shown = absurd cc
      any_found (Err x) (Err e) ok is shown = tt

  -- a look-up changes nothing
  pub makes_same_in : {A E : Type 0} {old new : Transaction S} {r : Result A E} {P : Trees → A → Type 0} → AsksInsideIn g old new r P → MakesIn g IsSame old new r
  makes_same_in asks = record { same_reference = asks.same_reference; goes = asks.goes }

  -- what follows of what is made
  pub makes_also : {A B E F : Type 0} {Begins : State → Type 0} {One Two : Trees → Trees → Type 0} {old new : Transaction S} {x : A} {y : B} → MakesIf {E = E} g Begins One old new (Ok x)
      → (Begins (state g old.conn.now) → IsTrue (state g new.conn.now).is_open → One (state g old.conn.now).now.trees (state g new.conn.now).now.trees → Two (state g old.conn.now).now.trees (state g new.conn.now).now.trees) → MakesIf {E = F} g Begins Two old new (Ok y)
  makes_also {A} {B} {E} {F} {Begins} {One} {Two} {old} {new} one means = record {
    same_reference = one.same_reference;
    goes = λ begins.
        let first = (one.goes begins).ok in
        record { ok = record { leaves = first.leaves; within = first.within; edit = λ up. means begins up (first.edit up); numbered = first.numbered; still = first.still }; err = tt };
  }

  -- what follows of what is made, for any answer
  pub makes_as : {A E : Type 0} {Begins : State → Type 0} {One Two : Trees → Trees → Type 0} {old new : Transaction S} {r : Result A E} → MakesIf g Begins One old new r
      → (Begins (state g old.conn.now) → IsTrue (state g old.conn.now).is_open → One (state g old.conn.now).now.trees (state g new.conn.now).now.trees → Two (state g old.conn.now).now.trees (state g new.conn.now).now.trees) → MakesIf g Begins Two old new r
  makes_as {A} {E} {Begins} {One} {Two} {old} {new} {r} one means = record { same_reference = one.same_reference; goes = λ begins. go begins r (one.goes begins) }
    where
      go : Begins (state g old.conn.now) → (r : Result A E) → Goes One (state g old.conn.now) (state g new.conn.now) r → Goes Two (state g old.conn.now) (state g new.conn.now) r
      go begins (Ok x) it =
          let first = it.ok in
          record { ok = record { leaves = first.leaves; within = first.within; edit = λ up. means begins (first.leaves.was_open up) (first.edit up); numbered = first.numbered; still = first.still }; err = tt }
      go begins (Err e) it = record { ok = tt; err = it.err }

  -- one part after the other
  pub makes_then : {A B E F : Type 0} {Begins : State → Type 0} {One Two Both : Trees → Trees → Type 0} {a b c : Transaction S} {x : A} {r : Result B F} → MakesIf {E = E} g Begins One a b (Ok x) → MakesIn g Two b c r
      → (Begins (state g a.conn.now) → IsTrue (state g b.conn.now).is_open → One (state g a.conn.now).now.trees (state g b.conn.now).now.trees → Two (state g b.conn.now).now.trees (state g c.conn.now).now.trees → Both (state g a.conn.now).now.trees (state g c.conn.now).now.trees)
      → MakesIf g Begins Both a c r
  makes_then {A} {B} {E} {F} {Begins} {One} {Two} {Both} {a} {b} {c} {x} {r} one two joined = record {
    same_reference = two.same_reference ∙ one.same_reference;
    goes = λ begins.
        let first = (one.goes begins).ok in
        goes_then One Two Both (state g a.conn.now) (state g b.conn.now) (state g c.conn.now) r (joined begins) first (two.goes first.within);
  }

  -- a part that fails after another
  pub makes_fails : {A B C E F G : Type 0} {Begins : State → Type 0} {One Two Both : Trees → Trees → Type 0} {a b c : Transaction S} {x : A} {e : F} {q : Result C G} → MakesIf {E = E} g Begins One a b (Ok x) → MakesIn {A = B} g Two b c (Err e) → IsErr q → MakesIf g Begins Both a c q
  makes_fails {A} {B} {C} {E} {F} {G} {Begins} {One} {Two} {Both} {a} {b} {c} {x} {e} {q} one two failed = record {
    same_reference = two.same_reference ∙ one.same_reference;
    goes = λ begins.
        let first = (one.goes begins).ok in
        goes_err Both (state g a.conn.now) (state g c.conn.now) q failed (leaves_then (state g a.conn.now) (state g b.conn.now) (state g c.conn.now) first.leaves (two.goes first.within).err);
  }
