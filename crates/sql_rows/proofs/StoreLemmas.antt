-- What any read and any write leave, whatever its text.
use Rattle.std.proofs.Common.{◌≡◌, ℕ, List, Bool, true, false, Option, Some, None, Ok, Err, Result, IsTrue, IsSome, IsOk, OnOk, unwrap_or, refl, sym, ◌∙◌, subst, inl, inr, true≢false, arith}
use Rattle.std.proofs.lemmas.Bool.{cases_Bool}
use Rattle.std.specs.List.{AllByRecursion}
use Rattle.sqlite_value.specs.Order.{Row}
use Rattle.sqlite_trees.specs.Tree.{Trees}
use Rattle.sqlite_trees.specs.View.{doubt}
use Rattle.sqlite_schema.specs.Rules.{Obeys}
use Rattle.sqlite_schema.specs.declared.command.Command.{Command}
use Rattle.sqlite_schema.specs.declared.command.Command.TheVariants.{Insert, InsertOr, Update, Delete}
use Rattle.sqlite_schema.specs.declared.command.Returning.{Returning}
use Rattle.sqlite.specs.declared.error.Error.{Error}
use Rattle.sqlite.specs.Effect.{Database}
use Rattle.sqlite.specs.Does.{Tally, Does}
use Rattle.sqlite.specs.Listing.{understood}
use Rattle.sqlite.specs.State.{State, HasCleanDisk, Runs, IsNotRun, Shown, ShowsRows, FailsToShow, FailsToQuery, CommitsShowing, IsRolledBack, IsUnchanged, Writes, mode_of}
use Rattle.sqlite.specs.Clock.{timed}
use Rattle.sqlite.proofs.Callers.{IsPlain, command_of}
use Rattle.sql_tables.specs.Tables.{hub_schema}
use Rattle.sql_rows.specs.TypedTables.{hub_good}
use Rattle.sql_rows.specs.TypedTable.{AreTyped}
use Rattle.sql_rows.specs.Kept.{IsHub, IsNumbered, Serves, IsServing, IsAsBefore, IsUndone, IsAsBeforeOrUndone, LeavesAll, Rests, IsUncommitted, StaysOpen, CommitsNothing}

-- a store that is open is clean
pub open_is_clean : (clean is_open : Bool) → (clean ≡ false → is_open ≡ false) → IsTrue is_open → doubt clean ≡ 0
unfolding doubt
open_is_clean true is_open law up = refl
open_is_clean false is_open law up = absurd (true≢false (sym up ∙ law refl))

pub obeys_in : (s : State) → Serves s → Obeys hub_schema s.now.trees
obeys_in s h = rw h.now.schema at h.now.sound.obeys

pub serves_as : (old new : State) → Serves old → new.now ≡ old.now → new.committed ≡ old.committed → new.in_transaction ≡ old.in_transaction → Serves new
serves_as old new was same last mode = record {
  now = subst IsHub (sym same) was.now;
  last = subst IsHub (sym last) was.last;
  settled = λ over. last ∙ was.settled (sym mode ∙ over) ∙ sym same;
}

pub serves_at : (s : State) → IsHub s.now → s.committed ≡ s.now → Serves s
serves_at s now same = record { now = now; last = subst IsHub (sym same) now; settled = λ over. same }

-- as the last commit left it
pub serves_last : (old new : State) → Serves old → new.now ≡ old.committed → new.committed ≡ old.committed → Serves new
serves_last old new was same last = record { now = subst IsHub (sym same) was.last; last = subst IsHub (sym last) was.last; settled = λ over. last ∙ sym same }

module _ (old new : State) (h : IsServing old) where
  pub serves_still : IsUnchanged old new → IsAsBefore old new
  serves_still same =
      let was = h same.0.was_open in
      record { was_open = same.0.was_open; now = same.0.now_is; committed = same.0.committed_is; mode = same.0.mode; marks = λ begun. same.2; serves = serves_as old new was same.0.now_is same.0.committed_is same.0.mode }

  pub serves_rolled : IsTrue new.is_open → IsRolledBack old new → IsAsBeforeOrUndone old new
  serves_rolled up back =
      let was = h (back.was_open up) in
      let undone = back.undone up in
      let serves = serves_last old new was undone.0 undone.1 in
      elim (cases_Bool old.in_transaction) [
        | inl begun ↦ inr (record { was_open = back.was_open up; begun = begun; ended = back.autocommit; now = undone.0; committed = undone.1; serves = serves })
        | inr over ↦ inl (record { was_open = back.was_open up; now = undone.0 ∙ was.settled over; committed = undone.1; mode = back.autocommit ∙ sym over; marks = λ begun. absurd (true≢false (sym begun ∙ over)); serves = serves })
      ]

  pub serves_unrun : IsTrue new.is_open → (sql : List ℕ) (params : Row) (e : Error) → IsNotRun old new sql params e → IsAsBeforeOrUndone old new
  unfolding IsNotRun
  serves_unrun up sql params e (inl refused) = inl (serves_still refused.1)
  serves_unrun up sql params e (inr failed) = serves_rolled up failed.3

-- ---- reads

module _ (sql : List ℕ) (params : Row) (old new : State) where
  -- a query that is plain changes nothing
  pub shown_unchanged : (rows : List Row) → IsPlain (understood old.now.schema sql) → Shown sql params old new rows → IsUnchanged old new
  unfolding Shown
  shown_unchanged rows plain h =
      let none = (subst IsPlain h.1.is plain).0 in
      let it = subst (ShowsRows old new sql h.0 (timed params h.0.formats h.1.now) rows) none h.2 in it.3

  pub shown_was : (rows : List Row) → Shown sql params old new rows → IsTrue old.is_open
  unfolding Shown
  shown_was rows h = go h.0.returning h.2
    where
      go : (o : Option Returning) → ShowsRows old new sql h.0 (timed params h.0.formats h.1.now) rows o → IsTrue old.is_open
      go None it = it.3.0.was_open
      go (Some what) it = it.1.shown.was_open

  pub shown_up : (rows : List Row) → Shown sql params old new rows → IsTrue new.is_open
  unfolding Shown
  shown_up rows h = go h.0.returning h.2
    where
      go : (o : Option Returning) → ShowsRows old new sql h.0 (timed params h.0.formats h.1.now) rows o → IsTrue new.is_open
      go None it = it.3.0.is_open
      go (Some what) it = it.1.shown.is_open

  -- nor does it commit
  pub commits_none : (db : Trees) → IsPlain (understood old.now.schema sql) → CommitsShowing sql params old db → ⊥
  unfolding CommitsShowing
  commits_none db plain h = let none = (subst IsPlain h.1.is plain).0 in let some = subst IsSome none h.2 in absurd cc

  pub failed_was : (e : Error) → IsTrue new.is_open → FailsToQuery sql params old new e → IsTrue old.is_open
  unfolding FailsToQuery IsNotRun
  failed_was e up (inl (inl refused)) = refused.1.0.was_open
  failed_was e up (inl (inr failed)) = failed.3.was_open up
  failed_was e up (inr h) = go h.0.returning h.2
    where
      go : (o : Option Returning) → FailsToShow old new sql h.0 (timed params h.0.formats h.1.now) e o → IsTrue old.is_open
      go None it = it.3.0.was_open
      go (Some what) (inl refused) = refused.1.0.was_open
      go (Some what) (inr failed) = failed.3.was_open up

  pub fails_before : IsServing old → IsTrue new.is_open → (e : Error) → IsPlain (understood old.now.schema sql) → FailsToQuery sql params old new e → IsAsBeforeOrUndone old new
  unfolding FailsToQuery
  fails_before h up e plain (inl unrun) = serves_unrun old new h up sql params e unrun
  fails_before h up e plain (inr h′) =
      let none = (subst IsPlain h′.1.is plain).0 in
      let it = subst (FailsToShow old new sql h′.0 (timed params h′.0.formats h′.1.now) e) none h′.2 in inl (serves_still old new h it.3)

-- ---- writes

-- it is one of the commands that write rows
abbrev pub IsWriting : Command → Type 0
IsWriting (Insert at from) = Unit {0}
IsWriting (InsertOr at how from clauses) = Unit {0}
IsWriting (Update at q) = Unit {0}
IsWriting (Delete at q) = Unit {0}
IsWriting _ = ⊥

pub written_runs : (old new : State) (k : Command) (text : List ℕ) (params : Row) (count : ℕ) → IsWriting k → Runs old new None k text params count → Writes old new None k text params count
written_runs old new (Insert at from) text params count w h = h
written_runs old new (InsertOr at how from clauses) text params count w h = h
written_runs old new (Update at q) text params count w h = h
written_runs old new (Delete at q) text params count w h = h
written_runs old new _ text params count w h = absurd w

-- what a text does to tables that are kept, by how many rows it changes, for any statement that writes rows; the number of our
-- schema stays
pub record MeansBy (sql : List ℕ) (params : Row) (Edit : ℕ → Trees → Trees → Type 0) : Type 1 where
  pub command : Command
  pub is : command_of (understood hub_schema sql) ≡ command
  pub plain : IsPlain (understood hub_schema sql)
  pub writes : IsWriting command
  pub does : (limit : Option ℕ) (st : State) (db : Database) (text : List ℕ) (tally : Tally) (after : Database) → db.schema ≡ hub_schema → AreTyped hub_schema hub_good db.trees → Obeys hub_schema db.trees
      → Does limit (mode_of st) params db text None command (Ok (tally, after))
      → (after.schema ≡ hub_schema) × AreTyped hub_schema hub_good after.trees × (Obeys hub_schema after.trees → Edit (unwrap_or tally.rows 0) db.trees after.trees × (IsNumbered db.trees → IsNumbered after.trees))

-- the same, however many rows it changes
abbrev pub Means : List ℕ → Row → (Trees → Trees → Type 0) → Type 1
Means sql params Edit = MeansBy sql params (λ _. Edit)

-- by what follows of its edit
pub means_by : {sql : List ℕ} {params : Row} {E F : ℕ → Trees → Trees → Type 0} → MeansBy sql params E → ((n : ℕ) (old new : Trees) → E n old new → F n old new) → MeansBy sql params F
means_by m weaker = record {
  command = m.command;
  is = m.is;
  plain = m.plain;
  writes = m.writes;
  does = λ limit st db text tally after has kept obeys h.
      let d = m.does limit st db text tally after has kept obeys h in (d.0, d.1, λ sound. let both = d.2 sound in (weaker (unwrap_or tally.rows 0) _ _ both.0, both.1));
}

pub means_as : {sql : List ℕ} {params : Row} {E F : Trees → Trees → Type 0} → Means sql params E → ((old new : Trees) → E old new → F old new) → Means sql params F
means_as m weaker = means_by m (λ n old new. weaker old new)

-- ---- an edit that may be done

-- each table is as it was
abbrev pub AreSame : Trees → Trees → Type 0
AreSame old new = AllByRecursion (λ t. new t.tree ≡ old t.tree) hub_schema.tables

-- the edit is made, or else each table is as it was
abbrev pub IfDone : (Trees → Trees → Type 0) → Bool → Trees → Trees → Type 0
IfDone Edit true = Edit
IfDone Edit false = AreSame

-- what follows of it
pub if_done : (E F : Trees → Trees → Type 0) (done : Bool) (old new : Trees) → (E old new → F old new) → IfDone E done old new → IfDone F done old new
if_done E F true old new weaker it = weaker it
if_done E F false old new weaker same = same

-- ---- calls one after the other that change nothing

as_before_then : (a b c : State) → IsAsBefore a b → IsAsBefore b c → IsAsBefore a c
as_before_then a b c first later = record { was_open = first.was_open; now = later.now ∙ first.now; committed = later.committed ∙ first.committed; mode = later.mode ∙ first.mode; marks = λ begun. later.marks (first.mode ∙ begun) ∙ first.marks begun; serves = later.serves }

undone_then : (a b c : State) → IsAsBefore a b → IsUndone b c → IsUndone a c
undone_then a b c first later = record { was_open = first.was_open; begun = sym first.mode ∙ later.begun; ended = later.ended; now = later.now ∙ first.committed; committed = later.committed ∙ first.committed; serves = later.serves }

was_open_before : {A E : Type 0} (a b : State) (r : Result A E) → LeavesAll a b r → IsTrue a.is_open
was_open_before a b (Ok x) left = left.was_open
was_open_before a b (Err e) (inl same) = same.was_open
was_open_before a b (Err e) (inr undone) = undone.was_open

pub rests_then : {A B F : Type 0} (E : Type 0) (a b c : State) (x : A) (r : Result B F) → Rests {A = A} {E = E} a b (Ok x) → Rests b c r → Rests a c r
rests_then {A} {B} {F} E a b c x r p q = λ serves up.
    let later = q (λ mid. (p serves mid).serves) up in
    go r (p serves (was_open_before b c r later)) later
  where
    go : (r : Result B F) → IsAsBefore a b → LeavesAll b c r → LeavesAll a c r
    go (Ok y) first later = as_before_then a b c first later
    go (Err e) first (inl same) = inl (as_before_then a b c first same)
    go (Err e) first (inr undone) = inr (undone_then a b c first undone)

-- what the second call says of the state before it, it says of the state before the first
pub rests_before : {A B F : Type 0} (E : Type 0) (a b c : State) (x : A) (r : Result B F) → Rests {A = A} {E = E} a b (Ok x) → Rests b c r → IsServing a → IsTrue c.is_open → IsServing b × (b.now ≡ a.now) × IsTrue b.is_open
rests_before E a b c x r p q serves up =
    let mid : IsServing b = λ up. (p serves up).serves in
    let open_between = was_open_before b c r (q mid up) in
    (mid, (p serves open_between).now, open_between)

-- the same answer as another type
pub leaves_as : {A B E F : Type 0} (a b : State) (r : Result A E) (q : Result B F) → OnOk q (IsOk r) → LeavesAll a b r → LeavesAll a b q
leaves_as a b (Ok x) (Ok y) ok left = left
leaves_as a b (Ok x) (Err e) ok left = inl left
leaves_as a b (Err x) (Ok y) ok left = absurd cc
leaves_as a b (Err x) (Err e) ok left = left

pub leaves_after : {A E : Type 0} (a b : State) (r : Result A E) → IsAsBefore a b → LeavesAll a b r
leaves_after a b (Ok x) same = same
leaves_after a b (Err e) same = inl same

pub commits_as : {A B E F : Type 0} (a b : State) (r : Result A E) (q : Result B F) → OnOk q (IsOk r) → (IsServing a → CommitsNothing a b r) → CommitsNothing a b q
commits_as a b (Ok x) (Ok y) ok h = λ serves. h serves serves
commits_as a b (Ok x) (Err e) ok h = λ serves. (h serves serves).stops
commits_as a b (Err x) (Ok y) ok h = absurd cc
commits_as a b (Err x) (Err e) ok h = λ serves. h serves serves

-- any answer after a call that answers Ok
pub commits_after : {A E : Type 0} (a b : State) (r : Result A E) → (IsServing a → StaysOpen a b) → CommitsNothing a b r
commits_after a b (Ok x) h = h
commits_after a b (Err e) h = λ serves. (h serves).stops

-- a call after one that answers Ok
pub uncommitted_after : (a b c : State) → StaysOpen a b → IsUncommitted b c → IsUncommitted a c
uncommitted_after a b c one two =
    let before = one.stops.clean in
    let after = two.clean in
    record {
      clean = omega (arith, before, after);
      leaves = λ up sure db left. let mid : HasCleanDisk b = omega (arith, after, sure) in one.stops.leaves up mid db (two.leaves (one.up up mid) sure db left);
    }

pub open_after : (a b c : State) → StaysOpen a b → StaysOpen b c → StaysOpen a c
open_after a b c one two = record {
  stops = uncommitted_after a b c one two.stops;
  up = λ up sure. let after = two.stops.clean in let mid : HasCleanDisk b = omega (arith, after, sure) in two.up (one.up up mid) sure;
}

pub commits_then : {A B F : Type 0} (E : Type 0) (a b c : State) (x : A) → Rests {A = A} {E = E} a b (Ok x) → (IsServing a → StaysOpen a b) → (r : Result B F) → CommitsNothing b c r → CommitsNothing a c r
commits_then E a b c x rests first (Ok y) second = λ serves. open_after a b c (first serves) (second (λ up. (rests serves up).serves))
commits_then E a b c x rests first (Err e) second = λ serves. uncommitted_after a b c (first serves) (second (λ up. (rests serves up).serves))
