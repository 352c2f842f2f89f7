-- Changes of a batch, by the statements that make them.
use Rattle.std.proofs.Common.{◌≡◌, ◌⊎◌, ℕ, nat_lt, List, Bool, true, false, Option, None, Ok, Err, Result, IsTrue, IsOk, IsErr, OnOk, OnErr, if◌then◌else◌, arith, refl, sym, ap, ◌∙◌, subst, inl, inr, true≢false}
use Rattle.std.proofs.lemmas.Bool.{cases_Bool}
use Rattle.sqlite_rules.proofs.ListLemmas.{all_from}
use Rattle.sqlite_value.specs.Order.{Row}
use Rattle.sqlite_trees.specs.Tree.{Trees}
use Rattle.sqlite_trees.specs.declared.error.StoreError.{StoreError}
use Rattle.sqlite_trees.specs.declared.error.StoreError.TheVariants.{OutOfMemory, Io, Corrupt, Full, Broken, Unstorable}
use Rattle.sqlite_schema.specs.declared.command.Command.{Command}
use Rattle.sqlite_schema.specs.declared.command.Command.TheVariants.{Select, Insert, InsertOr, Update, Delete, CreateTable, CreateIndex, DropTable, DropIndex, Begin, Commit, Rollback, Savepoint as Save, Release, RollbackTo, Nothing, CreateView, DropView, Rows}
use Rattle.sqlite_schema.specs.declared.command.Returning.{Returning}
use Rattle.sqlite_schema.specs.declared.schema.Constraint.{Constraint}
use Rattle.sqlite_schema.specs.declared.schema.Table.{Table}
use Rattle.sqlite_schema.specs.Rules.{Obeys}
use Rattle.sqlite.specs.declared.error.Error.{Error}
use Rattle.sqlite.specs.declared.error.Error.TheVariants.{SqliteFailure}
use Rattle.sqlite.specs.declared.error.ErrorCode.TheVariants.{ConstraintViolation}
use Rattle.sqlite.specs.Effect.{Database}
use Rattle.sqlite.specs.Listing.{understood}
use Rattle.sqlite.specs.State.{State, HasCleanDisk, Survives, CommitsBy, Executes, ExecutesIn, IsNotRun, IsUnchanged, Runs, Writes, shows_rows, store_error}
use Rattle.sqlite.proofs.Callers.{command_of, runs_as, statement_of}
use Rattle.sql_tables.specs.Tables.{hub_schema}
use Rattle.sql_rows.specs.Kept.{AsksIn, CommitsNothing, Edited, EditsIf, EditsIn, GoesOn, IsAdded, IsAsBefore, IsAsBeforeOrUndone, IsHub, IsInBatch, IsSame, IsServing, IsUncommitted, IsUndone, LeavesAll, LeavesEdit, Ran, StaysOpen, Stops, rows_changed}
use Rattle.sql_rows.proofs.StoreLemmas.{AreSame, IfDone, IsWriting, Means, MeansBy, open_after, serves_as, serves_rolled, serves_still, uncommitted_after, written_runs}

-- ---- what a statement leaves of a batch

goes_on : (old new : State) → IsInBatch old → IsUnchanged old new → GoesOn old new
goes_on old new inside same =
    let was = inside same.0.was_open in
    record {
      was_open = same.0.was_open;
      was_begun = was.begun;
      batch = record { serves = serves_as old new was.serves same.0.now_is same.0.committed_is same.0.mode; begun = same.0.mode ∙ was.begun };
      committed = same.0.committed_is;
      marks = same.2;
    }

-- a statement that ran found the connection open, if it is
runs_was : (old new : State) (returning : Option Returning) (k : Command) (text : List ℕ) (params : Row) (count : ℕ) → IsTrue new.is_open → Runs old new returning k text params count → IsTrue old.is_open
runs_was old new returning (Select q names) text params count up h = absurd h
runs_was old new returning (Insert at from) text params count up h = h.shown.was_open
runs_was old new returning (InsertOr at how from clauses) text params count up h = h.shown.was_open
runs_was old new returning (Update at q) text params count up h = h.shown.was_open
runs_was old new returning (Delete at q) text params count up h = h.shown.was_open
runs_was old new returning CreateTable text params count up h = h.shown.was_open
runs_was old new returning (CreateIndex at) text params count up h = h.shown.was_open
runs_was old new returning (DropTable at) text params count up h = h.shown.was_open
runs_was old new returning (DropIndex at) text params count up h = h.shown.was_open
runs_was old new returning CreateView text params count up h = h.shown.was_open
runs_was old new returning (DropView at) text params count up h = h.shown.was_open
runs_was old new returning Begin text params count up h = h.1.was_open
runs_was old new returning Commit text params count up h = h.1.was_open
runs_was old new returning Rollback text params count up h = h.1.was_open up
runs_was old new returning (Save name) text params count up h = h.0.0.was_open
runs_was old new returning (Release name) text params count up h = elim h.2 [ inl commits ↦ commits.1.0.was_open | inr drops ↦ drops.1.0.was_open ]
runs_was old new returning (RollbackTo name) text params count up h = h.2.2.was_open
runs_was old new returning (Rows values width names) text params count up h = h.0.0.was_open
runs_was old new returning Nothing text params count up h = h.0.0.was_open

executes_was : (sql : List ℕ) (values : Row) (old new : State) (count : ℕ) → IsTrue new.is_open → Executes sql values old new (Ok count) → IsTrue old.is_open
unfolding ExecutesIn
executes_was sql values old new count up h = elim (cases_Bool (shows_rows false h.0)) [
  | inl shows ↦ absurd (let e = (rw shows at h.2).0 in cc)
  | inr runs ↦ runs_was old new h.0.returning h.0.command _ _ count up (rw runs at h.2)
]

-- one that fails changes nothing, or undoes the batch
pub failed_rests : (sql : List ℕ) (values : Row) (old new : State) (e : Error) → IsServing old → IsTrue new.is_open → Executes sql values old new (Err e) → IsAsBeforeOrUndone old new
unfolding ExecutesIn IsNotRun
failed_rests sql values old new e serves up (inl unrun) = elim unrun [ inl refused ↦ inl (serves_still old new serves refused.1) | inr failed ↦ serves_rolled old new serves up failed.3 ]
failed_rests sql values old new e serves up (inr ran) = elim (cases_Bool (shows_rows false ran.0)) [
  | inl shows ↦ inl (serves_still old new serves (rw shows at ran.2).1)
  | inr runs ↦ elim (rw runs at ran.2) [ inl refused ↦ inl (serves_still old new serves refused.1) | inr failed ↦ serves_rolled old new serves up failed.3 ]
]

as_before_on : (old new : State) → IsInBatch old → IsAsBefore old new → GoesOn old new
as_before_on old new inside same =
    let begun = (inside same.was_open).begun in
    record { was_open = same.was_open; was_begun = begun; batch = record { serves = same.serves; begun = same.mode ∙ begun }; committed = same.committed; marks = same.marks begun }

left_of : (old new : State) → IsInBatch old → IsAsBeforeOrUndone old new → GoesOn old new ⊎ IsUndone old new
left_of old new inside (inl same) = inl (as_before_on old new inside same)
left_of old new inside (inr it) = inr it

serving : (s : State) → IsInBatch s → IsServing s
serving s inside up = (inside up).serves

never_stored : (cause : StoreError) (rule : Constraint) → ◌≡◌ {A = Error} (SqliteFailure (ConstraintViolation rule)) (store_error cause) → ⊥
never_stored OutOfMemory rule e = cc
never_stored Io rule e = cc
never_stored Corrupt rule e = cc
never_stored Full rule e = cc
never_stored Broken rule e = cc
never_stored Unstorable rule e = cc

-- one that a constraint refuses changes nothing
refused_unchanged : (sql : List ℕ) (values : Row) (old new : State) (rule : Constraint) → Executes sql values old new (Err (SqliteFailure (ConstraintViolation rule))) → IsUnchanged old new
unfolding ExecutesIn IsNotRun
refused_unchanged sql values old new rule (inl unrun) = elim unrun [ inl refused ↦ refused.1 | inr failed ↦ absurd (never_stored failed.0 rule failed.1) ]
refused_unchanged sql values old new rule (inr ran) = elim (cases_Bool (shows_rows false ran.0)) [
  | inl shows ↦ (rw shows at ran.2).1
  | inr runs ↦ elim (rw runs at ran.2) [ inl refused ↦ refused.1 | inr failed ↦ absurd (never_stored failed.0 rule failed.1) ]
]

module _ {sql : List ℕ} {params : Row} {Edit : ℕ → Trees → Trees → Type 0} (means : MeansBy sql params Edit) (old new : State) (inside : IsInBatch old) where
  writes : (count : ℕ) → IsTrue old.is_open → Executes sql params old new (Ok count) → Writes old new None means.command (statement_of sql (understood hub_schema sql)) params count
  writes count up ran = written_runs old new means.command _ params count means.writes (runs_as sql params old new hub_schema (inside up).serves.now.schema means.command means.is means.plain count ran)

  made : (count : ℕ) → IsTrue new.is_open → Executes sql params old new (Ok count) → Edited (Edit count) old new
  made count up ran =
      let was_open = executes_was sql params old new count up ran in
      let was = inside was_open in
      let hub = was.serves.now in
      let w = writes count was_open ran in
      let before : Obeys hub_schema old.now.trees = rw hub.schema at hub.sound.obeys in
      let d = means.does old.step_limit old old.now _ w.tally new.now hub.schema hub.rows before w.changed in
      let both = d.2 (rw d.0 at w.sound.obeys) in
      let last : new.committed ≡ old.committed = w.shown.committed_is ∙ ap (λ b. if b then old.committed else new.now) was.begun in
      let mode : new.in_transaction ≡ true = w.shown.mode ∙ was.begun in
      record {
        on = record {
          was_open = was_open;
          was_begun = was.begun;
          batch = record {
            serves = record {
              now = record { schema = d.0; sound = w.sound; rows = d.1; numbered = both.1 hub.numbered };
              last = subst IsHub (sym last) was.serves.last;
              settled = λ over. absurd (true≢false (sym mode ∙ over));
            };
            begun = mode;
          };
          committed = last;
          marks = w.marks;
        };
        edit = subst (λ n. Edit n old.now.trees new.now.trees) (sym w.counted) both.0;
      }

  -- it commits nothing
  commits_nothing : IsTrue old.is_open → (db : Trees) → CommitsBy sql params old db → ⊥
  unfolding CommitsBy
  commits_nothing up db h =
      let was = inside up in
      let is : means.command ≡ h.0.command = sym (subst (λ k. command_of (understood k sql) ≡ means.command) (sym was.serves.now.schema) means.is) ∙ ap command_of h.1.is in
      elim h.2 [
        | inl it ↦ elim it.0 [ inl commits ↦ subst IsWriting (is ∙ commits) means.writes | inr releases ↦ subst IsWriting (is ∙ releases.2) means.writes ]
        | inr writes ↦ true≢false (sym was.begun ∙ writes.0)
      ]

  uncommitted : Survives old new (CommitsBy sql params old) → IsUncommitted old new
  uncommitted survives = record { clean = survives.clean; leaves = λ up sure db left. elim (survives.crash sure db left) [ inl was ↦ was | inr commits ↦ absurd (commits_nothing up db commits) ] }

  ran_leaves : (r : Result ℕ Error) → IsTrue new.is_open → Executes sql params old new r → LeavesEdit (Edit (rows_changed r)) old new r
  ran_leaves (Ok count) up ran = made count up ran
  ran_leaves (Err e) up ran = left_of old new inside (failed_rests sql params old new e (serving old inside) up ran)

  ran_stops : (r : Result ℕ Error) → (HasCleanDisk new → Executes sql params old new r) → Survives old new (CommitsBy sql params old) → Stops old new r
  ran_stops (Ok count) ran survives = record { stops = uncommitted survives; up = λ up sure. (writes count up (ran sure)).shown.is_open }
  ran_stops (Err e) ran survives = uncommitted survives

-- ---- answers of other types

edit_as : {A B E F : Type 0} (Edit : Trees → Trees → Type 0) (a b : State) (r : Result A E) (q : Result B F) → OnOk q (IsOk r) → OnErr q (IsErr r) → LeavesEdit Edit a b r → LeavesEdit Edit a b q
edit_as Edit a b (Ok x) (Ok y) ok err left = left
edit_as Edit a b (Err x) (Err y) ok err left = left
edit_as Edit a b (Ok x) (Err y) ok err left = absurd cc
edit_as Edit a b (Err x) (Ok y) ok err left = absurd cc

stops_as : {A B E F : Type 0} (a b : State) (r : Result A E) (q : Result B F) → OnOk q (IsOk r) → OnErr q (IsErr r) → Stops a b r → Stops a b q
stops_as a b (Ok x) (Ok y) ok err it = it
stops_as a b (Err x) (Err y) ok err it = it
stops_as a b (Ok x) (Err y) ok err it = absurd cc
stops_as a b (Err x) (Ok y) ok err it = absurd cc

-- ---- statements

pub ran_as : {sql : List ℕ} {params values : Row} {old new : State} {r : Result ℕ Error} → (HasCleanDisk new → Executes sql values old new r) → Survives old new (CommitsBy sql values old) → values ≡ params → (IsTrue new.is_open → HasCleanDisk new) → Ran sql params old new r
ran_as {sql} {params} {values} {old} {new} {r} runs survives given clean = record {
  runs = λ sure. subst (λ v. Executes sql v old new r) given (runs sure);
  survives = subst (λ v. Survives old new (CommitsBy sql v old)) given survives;
  clean = clean;
}

pub edits_ran : {sql : List ℕ} {params : Row} {Edit : ℕ → Trees → Trees → Type 0} → MeansBy sql params Edit → {B F : Type 0} {old new : State} {r : Result ℕ Error} {q : Result B F} → Ran sql params old new r → OnOk q (IsOk r) → OnErr q (IsErr r) → EditsIn (Edit (rows_changed r)) old new q
edits_ran {sql} {params} {Edit} means {B} {F} {old} {new} {r} {q} ran ok err = record {
  leaves = λ inside up. edit_as (Edit (rows_changed r)) old new r q ok err (ran_leaves means old new inside r up (ran.runs (ran.clean up)));
  stops = λ inside. stops_as old new r q ok err (ran_stops means old new inside r ran.runs ran.survives);
}

pub edits_step : {sql : List ℕ} {params : Row} {Edit : ℕ → Trees → Trees → Type 0} → MeansBy sql params Edit → {B F : Type 0} {old new : State} {values : Row} {q : Result B F} (r : Result ℕ Error)
    → (HasCleanDisk new → Executes sql values old new r) → Survives old new (CommitsBy sql values old) → values ≡ params → (IsTrue new.is_open → HasCleanDisk new) → OnOk q (IsOk r) → OnErr q (IsErr r) → EditsIn (Edit (rows_changed r)) old new q
edits_step means r runs survives given clean ok err = edits_ran means (ran_as runs survives given clean) ok err

-- an update made its edit where it changed rows
pub edits_update : {sql : List ℕ} {params : Row} (Edit : Trees → Trees → Type 0) → MeansBy sql params (λ n. IfDone Edit (nat_lt 0 n)) → {F : Type 0} {old new : State} {r : Result ℕ Error} (done : Bool) → Ran sql params old new r → IsOk r → done ≡ nat_lt 0 (rows_changed r)
    → EditsIn {E = F} (IfDone Edit done) old new (Ok done)
edits_update {sql} {params} Edit means {F} {old} {new} {r} done ran ok is = subst (λ b. EditsIn {E = F} (IfDone Edit b) old new (Ok done)) (sym is) (edits_ran means ran ok tt)

same_tables : (old new : State) → new.now ≡ old.now → AreSame old.now.trees new.now.trees
same_tables old new same = subst (λ (d : Database). AreSame old.now.trees d.trees) (sym same) (all_from (λ (t : Table). old.now.trees t.tree ≡ old.now.trees t.tree) hub_schema.tables (λ t listed. refl))

-- an insert made its edit unless a constraint refused its row
pub edits_add : {sql : List ℕ} {params : Row} {Edit : Trees → Trees → Type 0} → Means sql params Edit → {F : Type 0} {old new : State} {r : Result ℕ Error} (done : Bool) → Ran sql params old new r → IsAdded done r → EditsIn {E = F} (IfDone Edit done) old new (Ok done)
edits_add means true ran added = edits_ran means ran added tt
edits_add {sql} {params} {Edit} means {F} {old} {new} {r} false ran refused =
    let same : HasCleanDisk new → IsUnchanged old new = λ sure. refused_unchanged sql params old new refused.0 (subst (Executes sql params old new) refused.1 (ran.runs sure)) in
    record {
      leaves = λ inside up. record { on = goes_on old new inside (same (ran.clean up)); edit = same_tables old new (same (ran.clean up)).0.now_is };
      stops = λ inside. record { stops = uncommitted means old new inside ran.survives; up = λ up sure. (same sure).0.is_open };
    }

-- ---- parts of a change

-- no part
pub edits_none : {A E : Type 0} {Edit : Trees → Trees → Type 0} {s : State} {x : A} → Edit s.now.trees s.now.trees → EditsIn {E = E} Edit s s (Ok x)
edits_none {A} {E} {Edit} {s} none = record {
  leaves = λ inside up. record { on = record { was_open = up; was_begun = (inside up).begun; batch = inside up; committed = refl; marks = refl }; edit = none };
  stops = λ inside. record { stops = record { clean = omega arith; leaves = λ up sure db left. left }; up = λ up sure. up };
}

-- the same, if more holds where it begins
pub edits_if : {A E : Type 0} {First Begins : State → Type 0} {Edit : Trees → Trees → Type 0} {old new : State} {r : Result A E} → EditsIf First Edit old new r → (Begins old → First old) → EditsIf Begins Edit old new r
edits_if part first = record { leaves = λ begins. part.leaves (first begins); stops = λ begins. part.stops (first begins) }

-- a look-up changes nothing
pub edits_same : {A E : Type 0} {old new : State} {r : Result A E} {P : Trees → A → Type 0} → AsksIn old new r P → EditsIn IsSame old new r
edits_same {A} {E} {old} {new} {r} asks = record { leaves = λ inside up. left inside r (asks.same (serving old inside) up); stops = λ inside. stopped inside r asks.stops }
  where
    left : IsInBatch old → (r : Result A E) → LeavesAll old new r → LeavesEdit IsSame old new r
    left inside (Ok x) same = record { on = as_before_on old new inside same; edit = ap (λ (d : Database). d.trees) same.now }
    left inside (Err e) it = left_of old new inside it

    stopped : IsInBatch old → (r : Result A E) → CommitsNothing old new r → Stops old new r
    stopped inside (Ok x) it = it (serving old inside)
    stopped inside (Err e) it = it (serving old inside)

module _ {Begins : State → Type 0} where
  -- what follows of what is made
  pub edits_also : {A B E F : Type 0} {One Two : Trees → Trees → Type 0} {old new : State} {x : A} {y : B} → EditsIf {E = E} Begins One old new (Ok x)
      → (Begins old → IsTrue new.is_open → One old.now.trees new.now.trees → Two old.now.trees new.now.trees) → EditsIf {E = F} Begins Two old new (Ok y)
  edits_also one means = record { leaves = λ begins up. let first = one.leaves begins up in record { on = first.on; edit = means begins up first.edit }; stops = one.stops }

  module _ {A E : Type 0} {One : Trees → Trees → Type 0} {a b : State} {x : A} (one : EditsIf {E = E} Begins One a b (Ok x)) where
    -- an error after a part
    pub edits_stop : {B F : Type 0} {Two : Trees → Trees → Type 0} {q : Result B F} → IsErr q → EditsIf Begins Two a b q
    edits_stop {B} {F} {Two} {q} failed = go q failed
      where
        go : (q : Result B F) → IsErr q → EditsIf Begins Two a b q
        go (Ok y) failed = absurd cc
        go (Err e) failed = record { leaves = λ begins up. inl (one.leaves begins up).on; stops = λ begins. (one.stops begins).stops }

    between : Begins a → IsInBatch b
    between begins up = (one.leaves begins up).on.batch

    on_then : (c : State) → GoesOn a b → GoesOn b c → GoesOn a c
    on_then c first later = record { was_open = first.was_open; was_begun = first.was_begun; batch = later.batch; committed = later.committed ∙ first.committed; marks = later.marks ∙ first.marks }

    fails_then : (c : State) → Begins a → GoesOn b c ⊎ IsUndone b c → GoesOn a c ⊎ IsUndone a c
    fails_then c begins (inl on) = inl (on_then c (one.leaves begins on.was_open).on on)
    fails_then c begins (inr it) =
        let first = (one.leaves begins it.was_open).on in
        inr (record { was_open = first.was_open; begun = first.was_begun; ended = it.ended; now = it.now ∙ first.committed; committed = it.committed ∙ first.committed; serves = it.serves })

    parts_then : {B F : Type 0} {Two Both : Trees → Trees → Type 0} {c : State} {r : Result B F} → EditsIn Two b c r
        → (Begins a → IsTrue b.is_open → One a.now.trees b.now.trees → Two b.now.trees c.now.trees → Both a.now.trees c.now.trees) → EditsIf Begins Both a c r
    parts_then {B} {F} {Two} {Both} {c} {r} two joined = record {
      leaves = λ begins up. left r begins (two.leaves (between begins) up);
      stops = λ begins. stopped r (one.stops begins) (two.stops (between begins));
    }
      where
        left : (r : Result B F) → Begins a → LeavesEdit Two b c r → LeavesEdit Both a c r
        left (Ok y) begins second =
            let mid = second.on.was_open in
            let first = one.leaves begins mid in
            record { on = on_then c first.on second.on; edit = joined begins mid first.edit second.edit }
        left (Err e) begins second = fails_then c begins second

        stopped : (r : Result B F) → StaysOpen a b → Stops b c r → Stops a c r
        stopped (Ok y) first second = open_after a b c first second
        stopped (Err e) first second = uncommitted_after a b c first second

    -- a part that fails after another
    pub edits_fail : {B C F G : Type 0} {Two Both : Trees → Trees → Type 0} {c : State} {e : F} {q : Result C G} → EditsIn {A = B} Two b c (Err e) → IsErr q → EditsIf Begins Both a c q
    edits_fail {B} {C} {F} {G} {Two} {Both} {c} {e} {q} two failed = go q failed
      where
        go : (q : Result C G) → IsErr q → EditsIf Begins Both a c q
        go (Ok y) failed = absurd cc
        go (Err d) failed = record { leaves = λ begins up. fails_then c begins (two.leaves (between begins) up); stops = λ begins. uncommitted_after a b c (one.stops begins) (two.stops (between begins)) }

-- one part after the other
pub edits_then : {Begins : State → Type 0} {Both : Trees → Trees → Type 0} {A B E F : Type 0} {One Two : Trees → Trees → Type 0} {a b c : State} {x : A} {r : Result B F} → EditsIf {E = E} Begins One a b (Ok x) → EditsIn Two b c r
    → (Begins a → IsTrue b.is_open → One a.now.trees b.now.trees → Two b.now.trees c.now.trees → Both a.now.trees c.now.trees) → EditsIf Begins Both a c r
edits_then one two joined = parts_then one two joined

-- a part that fails is no edit
pub edits_err : {Begins : State → Type 0} {Two : Trees → Trees → Type 0} {A B E F : Type 0} {One : Trees → Trees → Type 0} {a b : State} {e : E} {q : Result B F} → EditsIf {A = A} Begins One a b (Err e) → IsErr q → EditsIf Begins Two a b q
edits_err {Begins} {Two} {A} {B} {E} {F} {One} {a} {b} {e} {q} one failed = go q failed
  where
    go : (q : Result B F) → IsErr q → EditsIf Begins Two a b q
    go (Ok y) failed = absurd cc
    go (Err d) failed = record { leaves = one.leaves; stops = one.stops }

-- a statement that fails is no edit
pub edits_failed : {sql : List ℕ} {params : Row} {Edit : ℕ → Trees → Trees → Type 0} → MeansBy sql params Edit → {B F : Type 0} {Two : Trees → Trees → Type 0} {old new : State} {q : Result B F} (r : Result ℕ Error) → Ran sql params old new r → IsErr r → IsErr q → EditsIn Two old new q
edits_failed means (Ok n) ran err failed = absurd cc
edits_failed means {B} {F} (Err e) ran err failed = edits_err (edits_ran means {B = B} {q = Err e} ran tt err) failed

-- a part that may make its edit, and made it
pub edits_done : {F : Type 0} (Edit : Trees → Trees → Type 0) (done : Bool) {old new : State} → EditsIn {E = F} (IfDone Edit done) old new (Ok done) → done ≡ true → EditsIn {E = F} Edit old new (Ok (tt {0}))
edits_done Edit true part is = edits_also part (λ inside up it. it)
edits_done Edit false part is = absurd (true≢false (sym is))

-- or else left each table as it was, and another part after it
pub edits_else : {B F : Type 0} {Two : Trees → Trees → Type 0} (Edit : Trees → Trees → Type 0) (done : Bool) {a b c : State} {r : Result B F} → EditsIn {E = F} (IfDone Edit done) a b (Ok done) → done ≡ false → EditsIn Two b c r
    → (AreSame a.now.trees b.now.trees → Two b.now.trees c.now.trees → Edit a.now.trees c.now.trees) → EditsIn Edit a c r
edits_else Edit true part is second joined = absurd (true≢false is)
edits_else Edit false part is second joined = edits_then part second (λ inside up same made. joined same made)
