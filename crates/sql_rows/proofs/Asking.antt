-- What a look-up says, by the statements and the look-ups that it makes.
use Rattle.std.proofs.Common.{◌≡◌, ◌∙◌, ℕ, List, [], Bool, Option, Result, Ok, Err, IfOk, IsErr, IsOk, OnOk, filter, find, map, take, option_map, refl, subst, arith}
use Rattle.std.proofs.lemmas.Result.{IfOk-from_err}
use Rattle.sqlite_trees.specs.Tree.{Trees}
use Rattle.sqlite_value.specs.Order.{Row, column}
use Rattle.sqlite.specs.declared.error.Error.{Error}
use Rattle.sqlite.specs.Effect.{Database}
use Rattle.sqlite.specs.State.{State}
use Rattle.hub_rows.specs.Keyed.{first, greatest, put_all}
use Rattle.sql_rows.specs.Kept.{AsksIn, IsServing, Shows, ShowsLast, ShowsPage, ShowsText}
use Rattle.sql_rows.specs.TypedTable.{TypedTable, cmp, rows_in}
use Rattle.sql_rows.specs.Values.{count_in, first_text}
use Rattle.sql_rows.proofs.Calls.{first_finds, last_finds}
use Rattle.sql_rows.proofs.StoreLemmas.{commits_after, commits_as, commits_then, leaves_after, leaves_as, rests_before, rests_then}

if_ok : {A E : Type 0} {P Q : A → Type 0} (r : Result A E) → ((a : A) → P a → Q a) → IfOk r P → IfOk r Q
if_ok (Ok a) turn is = turn a is
if_ok (Err e) turn is = tt

no_answer : {A E : Type 0} (r : Result A E) (P : Type 0) → IsErr r → OnOk r P
no_answer (Ok a) P failed = absurd cc
no_answer (Err e) P failed = tt

rows_find : {V T E F : Type 0} (items : V → List Row) (s : TypedTable T) (those : List T) (r : Result V E) (q : Result (List T) F) → OnOk q (IsOk r)
    → IfOk r (λ v. IfOk q (λ l. l ≡ put_all (cmp s) (map s.read (items v)) [])) → IfOk r (λ v. put_all (cmp s) (map s.read (items v)) [] ≡ those) → IfOk q (λ l. l ≡ those)
rows_find items s those (Ok v) (Ok l) ok is shown = is ∙ shown
rows_find items s those (Ok v) (Err e) ok is shown = tt
rows_find items s those (Err x) (Ok l) ok is shown = absurd cc
rows_find items s those (Err x) (Err e) ok is shown = tt

text_finds : {V E F : Type 0} (items : V → List Row) (next : Option (List ℕ)) (r : Result V E) (q : Result (Option (List ℕ)) F) → OnOk q (IsOk r)
    → IfOk r (λ v. IfOk q (λ o. o ≡ option_map first_text (first (items v)))) → IfOk r (λ v. option_map first_text (first (items v)) ≡ next) → IfOk q (λ o. o ≡ next)
text_finds items next (Ok v) (Ok o) ok is shown = is ∙ shown
text_finds items next (Ok v) (Err e) ok is shown = tt
text_finds items next (Err x) (Ok o) ok is shown = absurd cc
text_finds items next (Err x) (Err e) ok is shown = tt

-- ---- one statement

-- all rows that it shows
pub asks_rows : {V T F : Type 0} {items : V → List Row} {s : TypedTable T} {p : T → Bool} {old new : State} {r : Result V Error} {q : Result (List T) F} {P : Trees → List T → Type 0} → (IsServing old → Shows items s p old new r) → OnOk q (IsOk r)
    → IfOk r (λ v. IfOk q (λ l. l ≡ put_all (cmp s) (map s.read (items v)) [])) → ((db : Trees) (l : List T) → l ≡ filter p (rows_in s db) → P db l) → AsksIn old new q P
asks_rows {V} {T} {F} {items} {s} {p} {old} {new} {r} {q} {P} shows ok rows means = record {
  found = λ serves up. if_ok q (means old.now.trees) (rows_find items s (filter p (rows_in s old.now.trees)) r q ok rows ((shows serves).ok up));
  same = λ serves up. leaves_as old new r q ok ((shows serves).same up);
  stops = commits_as old new r q ok (λ serves. (shows serves).stops);
}

-- the first rows that it shows
pub asks_page : {V T F : Type 0} {n : ℕ} {items : V → List Row} {s : TypedTable T} {p : T → Bool} {old new : State} {r : Result V Error} {q : Result (List T) F} {P : Trees → List T → Type 0} → (IsServing old → ShowsPage n items s p old new r) → OnOk q (IsOk r)
    → IfOk r (λ v. IfOk q (λ l. l ≡ put_all (cmp s) (map s.read (items v)) [])) → ((db : Trees) (l : List T) → l ≡ take n (filter p (rows_in s db)) → P db l) → AsksIn old new q P
asks_page {V} {T} {F} {n} {items} {s} {p} {old} {new} {r} {q} {P} shows ok rows means = record {
  found = λ serves up. if_ok q (means old.now.trees) (rows_find items s (take n (filter p (rows_in s old.now.trees))) r q ok rows ((shows serves).ok up));
  same = λ serves up. leaves_as old new r q ok ((shows serves).same up);
  stops = commits_as old new r q ok (λ serves. (shows serves).stops);
}

-- the first of them
pub asks_first : {V T F : Type 0} {items : V → List Row} {s : TypedTable T} {p : T → Bool} {old new : State} {r : Result V Error} {q : Result (Option T) F} {P : Trees → Option T → Type 0} → (IsServing old → Shows items s p old new r) → OnOk q (IsOk r)
    → IfOk r (λ v. IfOk q (λ o. o ≡ first (put_all (cmp s) (map s.read (items v)) []))) → ((db : Trees) (o : Option T) → o ≡ find p (rows_in s db) → P db o) → AsksIn old new q P
asks_first {V} {T} {F} {items} {s} {p} {old} {new} {r} {q} {P} shows ok row means = record {
  found = λ serves up. if_ok q (means old.now.trees) (first_finds items s p old.now.trees r q ok row ((shows serves).ok up));
  same = λ serves up. leaves_as old new r q ok ((shows serves).same up);
  stops = commits_as old new r q ok (λ serves. (shows serves).stops);
}

-- the last number
pub asks_last : {V T F : Type 0} {items : V → List Row} {at : ℕ} {s : TypedTable T} {number : T → ℕ} {p : T → Bool} {old new : State} {r : Result V Error} {q : Result ℕ F} {P : Trees → ℕ → Type 0} → (IsServing old → ShowsLast items at s number p old new r) → OnOk q (IsOk r)
    → IfOk r (λ v. IfOk q (λ n. n ≡ greatest (map (λ x. count_in (column x at)) (items v)))) → ((db : Trees) (n : ℕ) → n ≡ greatest (map number (filter p (rows_in s db))) → P db n) → AsksIn old new q P
asks_last {V} {T} {F} {items} {at} {s} {number} {p} {old} {new} {r} {q} {P} shows ok last means = record {
  found = λ serves up. if_ok q (means old.now.trees) (last_finds items at (greatest (map number (filter p (rows_in s old.now.trees)))) r q ok last ((shows serves).ok up));
  same = λ serves up. leaves_as old new r q ok ((shows serves).same up);
  stops = commits_as old new r q ok (λ serves. (shows serves).stops);
}

-- the text of the first row
pub asks_text : {V T F : Type 0} {items : V → List Row} {s : TypedTable T} {text : T → List ℕ} {p : T → Bool} {old new : State} {r : Result V Error} {q : Result (Option (List ℕ)) F} {P : Trees → Option (List ℕ) → Type 0} → (IsServing old → ShowsText items s text p old new r) → OnOk q (IsOk r)
    → IfOk r (λ v. IfOk q (λ o. o ≡ option_map first_text (first (items v)))) → ((db : Trees) (o : Option (List ℕ)) → o ≡ option_map text (find p (rows_in s db)) → P db o) → AsksIn old new q P
asks_text {V} {T} {F} {items} {s} {text} {p} {old} {new} {r} {q} {P} shows ok is means = record {
  found = λ serves up. if_ok q (means old.now.trees) (text_finds items (option_map text (find p (rows_in s old.now.trees))) r q ok is ((shows serves).ok up));
  same = λ serves up. leaves_as old new r q ok ((shows serves).same up);
  stops = commits_as old new r q ok (λ serves. (shows serves).stops);
}

-- ---- look-ups of others

-- none yet
pub asks_none : {A E : Type 0} {old : State} {x : A} {P : Trees → A → Type 0} → ((db : Trees) → P db x) → AsksIn {E = E} old old (Ok x) P
asks_none {A} {E} {old} {x} {P} means = record {
  found = λ serves up. means old.now.trees;
  same = λ serves up. record { was_open = up; now = refl; committed = refl; mode = refl; marks = λ begun. refl; serves = serves up };
  stops = λ serves. record { stops = record { clean = omega arith; leaves = λ up sure db left. left }; up = λ up sure. up };
}

-- what follows from the answer of another
pub asks_as : {A B E F : Type 0} {old new : State} {r : Result A E} {q : Result B F} {P : Trees → A → Type 0} {Q : Trees → B → Type 0} → AsksIn old new r P → OnOk q (IsOk r) → ((db : Trees) → IfOk r (P db) → IfOk q (Q db)) → AsksIn old new q Q
asks_as {A} {B} {E} {F} {old} {new} {r} {q} {P} {Q} asks ok means = record {
  found = λ serves up. means old.now.trees (asks.found serves up);
  same = λ serves up. leaves_as old new r q ok (asks.same serves up);
  stops = commits_as old new r q ok (λ serves. asks.stops);
}

-- the same answer by another definition
pub asks_also : {A E : Type 0} {old new : State} {r : Result A E} {P Q : Trees → A → Type 0} → AsksIn old new r P → ((db : Trees) (a : A) → P db a → Q db a) → AsksIn old new r Q
asks_also {A} {E} {old} {new} {r} {P} {Q} asks means = record {
  found = λ serves up. if_ok r (means old.now.trees) (asks.found serves up);
  same = asks.same;
  stops = asks.stops;
}

-- what is made of the answer x of another
pub asks_of : {A B E F : Type 0} {old new : State} {x : A} {q : Result B F} {P : Trees → A → Type 0} {Q : Trees → B → Type 0} → AsksIn {E = E} old new (Ok x) P → ((db : Trees) → P db x → IfOk q (Q db)) → AsksIn old new q Q
asks_of {A} {B} {E} {F} {old} {new} {x} {q} {P} {Q} asks means = record {
  found = λ serves up. means old.now.trees (asks.found serves up);
  same = λ serves up. leaves_after old new q (asks.same serves up);
  stops = commits_after old new q asks.stops;
}

-- an error after another
pub asks_err : {A B E F : Type 0} {old new : State} {r : Result A E} {q : Result B F} {P : Trees → A → Type 0} {Q : Trees → B → Type 0} → AsksIn old new r P → IsErr q → AsksIn old new q Q
asks_err {A} {B} {E} {F} {old} {new} {r} {q} {P} {Q} asks failed = asks_as asks (no_answer q (IsOk r) failed) (λ db was. IfOk-from_err q (Q db) failed)

-- one after the other, where the first answered x
pub asks_then : {A B E F : Type 0} {a b c : State} {x : A} {q : Result B F} {P : Trees → A → Type 0} {Q : Trees → B → Type 0} → AsksIn {E = E} a b (Ok x) P → AsksIn b c q Q → AsksIn a c q (λ db y. P db x × Q db y)
asks_then {A} {B} {E} {F} {a} {b} {c} {x} {q} {P} {Q} one two = record {
  found = λ serves up.
      let between = rests_before E a b c x q one.same two.same serves up in
      let was = one.found serves between.2 in
      if_ok q (λ y is. (was, is)) (subst (λ (d : Database). IfOk q (Q d.trees)) between.1 (two.found between.0 up));
  same = rests_then E a b c x q one.same two.same;
  stops = commits_then E a b c x one.same one.stops q two.stops;
}
