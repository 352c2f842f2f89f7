-- The tables and indexes that CREATE makes, and the indexes that DROP takes.
use Rattle.std.proofs.Common.{◌≡◌, ◌⊎◌, ℕ, List, [], ◌∷◌, ◌++◌, true, false, Some, None, slice_get, Ok, Err, Result, IsTrue, OnOk, sym, ap, ◌∙◌, subst, inl, inr}
use Rattle.std.proofs.lemmas.Bool.{cases_Bool}
use Rattle.std.specs.List.{AllByRecursion}
use Rattle.sqlite_value.specs.Order.{Row}
use Rattle.sqlite_trees.specs.Tree.{Trees}
use Rattle.sqlite_schema.specs.declared.schema.Schema.{Schema}
use Rattle.sqlite_schema.specs.declared.schema.Table.{Table}
use Rattle.sqlite_schema.specs.declared.schema.Index.{Index}
use Rattle.sqlite_schema.specs.declared.command.Command.TheVariants.{CreateTable, CreateIndex, DropIndex}
use Rattle.sqlite_catalog.specs.Change.{created, indexed, without_index, next_tree, KeepsRows}
use Rattle.sqlite_catalog.specs.Calls.{RefusesToDropIndex}
use Rattle.sqlite.specs.declared.error.Error.{Error}
use Rattle.sqlite.specs.declared.error.Error.TheVariants.{SqliteFailure}
use Rattle.sqlite.specs.declared.error.ErrorCode.TheVariants.{TransactionState}
use Rattle.sqlite.specs.declared.transaction.Transaction.{Transaction}
use Rattle.sqlite.specs.Effect.{Database, RefusesToAlter}
use Rattle.sqlite.specs.Does.{Tally, AtPlace, MakesIndex, Leaves as IsLeft, no_rows as no_tally}
use Rattle.sqlite.specs.Held.{state}
use Rattle.sqlite.specs.Rows.{Then, Gives}
use Rattle.sqlite.specs.State.{State, HasCleanDisk, Survives, ExecutesInside, Writes}
use Rattle.sqlite.specs.Store.{Ghosts}
use Rattle.sqlite.proofs.Callers.{runs_as}
use Rattle.sql_tables.specs.Opening.{IsCreate, IsIndexCreate, IsIndexDrop}
use Rattle.sql_rows.specs.Kept.{Leaves}
use Rattle.sql_rows.specs.Opening.{WithinAs, IsInsideAs, IsPart, Alters}
use Rattle.sql_rows.proofs.PutLemmas.{went, same_value}
use Rattle.sql_rows.proofs.TxLemmas.{leaves_self, leaves_then}

pub more_tables : (P : Table → Type 0) (ts : List Table) (t : Table) → AllByRecursion P ts → P t → AllByRecursion P (ts ++ t ∷ [])
more_tables P [] t all last = (last, tt)
more_tables P (u ∷ ts) t all last = (all.0, more_tables P ts t all.1 last)

still_kept : (ts : List Table) (rows old new : Trees) → KeepsRows ts old new → KeepsRows ts rows old → KeepsRows ts rows new
still_kept [] rows old new same kept = tt
still_kept (t ∷ ts) rows old new same kept = (same.0 ∙ kept.0, still_kept ts rows old new same.1 kept.1)

module _ (rows : Trees) (sql : List ℕ) (from : Schema) (table : Table) (is : IsCreate sql from table) (none : rows (next_tree from) ≡ []) where
  pub creates : (old new : State) (count : ℕ) → ExecutesInside 0 sql [] old new (Ok count) → IsInsideAs rows from old → WithinAs rows (created from table) new
  creates old new count ran inside =
      let was = inside ran.1.was_open in
      let w = subst (λ t. Writes old new None CreateTable t [] count) is.text (runs_as sql [] old new from was.schema_is CreateTable is.command is.plain count ran.0) in
      let all = went w.changed in
      let first = went all.1 in
      let made = first.1 in
      let both : Ok made.table ≡ Ok table = sym made.defined ∙ is.defined in
      let same : made.table ≡ table = cc in
      let schema : first.0.schema ≡ created from table = made.is ∙ ap (λ s. created s made.table) was.schema_is ∙ ap (created from) same in
      let plain = ap Rattle.sqlite.specs.Does.lacks_sequence schema ∙ is.uncounted in
      let now : new.now ≡ first.0 = ap (λ (p : Tally × Database). p.1) (same_value all.2) ∙ same_value (rw plain at first.2) in
      let empty : first.0.trees (next_tree from) ≡ [] = subst (λ s. first.0.trees (next_tree s) ≡ []) was.schema_is made.empty in
      let others : KeepsRows from.tables old.now.trees first.0.trees = subst (λ (s : Schema). KeepsRows s.tables old.now.trees first.0.trees) was.schema_is made.others in
      let kept : KeepsRows (created from table).tables rows first.0.trees =
      more_tables (λ t. first.0.trees t.tree ≡ rows t.tree) from.tables (record table { tree = next_tree from }) (still_kept from.tables rows old.now.trees first.0.trees others was.kept) (empty ∙ sym none) in
      record {
        schema_is = ap (λ (d : Database). d.schema) now ∙ schema;
        sound = w.sound;
        kept = subst (λ (d : Database). KeepsRows (created from table).tables rows d.trees) (sym now) kept;
        mode = ran.1.mode;
      }

module _ (rows : Trees) (sql : List ℕ) (from : Schema) (at : ℕ) (table : Table) (index : Index) (is : IsIndexCreate sql from at table index) where
  pub creates_index : (old new : State) (count : ℕ) → ExecutesInside 0 sql [] old new (Ok count) → IsInsideAs rows from old → WithinAs rows (indexed from table index) new
  creates_index old new count ran inside =
      let was = inside ran.1.was_open in
      let w = subst (λ t. Writes old new None (CreateIndex at) t [] count) is.text (runs_as sql [] old new from was.schema_is (CreateIndex at) is.command is.plain count ran.0) in
      let here : slice_get old.now.schema.tables at ≡ Some table = ap (λ (s : Schema). slice_get s.tables at) was.schema_is ∙ is.here in
      let placed = subst (λ o. AtPlace {A = Tally × Database} (λ t. Then (MakesIndex sql old.now t) (λ after. Gives (no_tally false, after))) o (Ok (w.tally, new.now))) here w.changed in
      let all = went placed in
      let made = all.1 in
      let both : Ok made.index ≡ Ok index = sym made.defined ∙ is.defined in
      let same : made.index ≡ index = cc in
      let schema : all.0.schema ≡ indexed from table index = made.is ∙ ap (λ s. indexed s table made.index) was.schema_is ∙ ap (indexed from table) same in
      let now : new.now ≡ all.0 = ap (λ (p : Tally × Database). p.1) (same_value all.2) in
      let kept : KeepsRows from.tables rows all.0.trees = still_kept from.tables rows old.now.trees all.0.trees (subst (λ (s : Schema). KeepsRows s.tables old.now.trees all.0.trees) was.schema_is made.rows) was.kept in
      record {
        schema_is = ap (λ (d : Database). d.schema) now ∙ schema;
        sound = w.sound;
        kept = subst (λ (d : Database). KeepsRows from.tables rows d.trees) (sym now) kept;
        mode = ran.1.mode;
      }

module _ (rows : Trees) (sql : List ℕ) (from : Schema) (index : Index) (is : IsIndexDrop sql from index) where
  pub drops_index : (old new : State) (count : ℕ) → ExecutesInside 0 sql [] old new (Ok count) → IsInsideAs rows from old → WithinAs rows (without_index from index.tree) new
  drops_index old new count ran inside =
      let was = inside ran.1.was_open in
      let w = runs_as sql [] old new from was.schema_is (DropIndex is.at) is.command is.plain count ran.0 in
      let here : slice_get old.now.schema.indexes is.at ≡ Some index = ap (λ (s : Schema). slice_get s.indexes is.at) was.schema_is ∙ is.here in
      let placed = subst (λ o. AtPlace {A = Tally × Database} (λ (i : Index). Then (IsLeft (without_index old.now.schema i.tree) old.now.trees (RefusesToAlter (RefusesToDropIndex i))) (λ after. Gives (no_tally false, after))) o (Ok (w.tally, new.now))) here w.changed in
      let all = went placed in
      let left = all.1 in
      let schema : all.0.schema ≡ without_index from index.tree = left.0 ∙ ap (λ s. without_index s index.tree) was.schema_is in
      let now : new.now ≡ all.0 = ap (λ (p : Tally × Database). p.1) (same_value all.2) in
      let kept : KeepsRows from.tables rows all.0.trees = still_kept from.tables rows old.now.trees all.0.trees (subst (λ (s : Schema). KeepsRows s.tables old.now.trees all.0.trees) was.schema_is left.1) was.kept in
      record {
        schema_is = ap (λ (d : Database). d.schema) now ∙ schema;
        sound = w.sound;
        kept = subst (λ (d : Database). KeepsRows from.tables rows d.trees) (sym now) kept;
        mode = ran.1.mode;
      }

-- what a statement of a transaction leaves
module _ {H : Type 0} (state : H → State) (a b : H) (sql : List ℕ) (params : Row) (r : Result ℕ Error) (ran : HasCleanDisk (state b) → IsTrue (state a).in_transaction → ExecutesInside 0 sql params (state a) (state b) r)
    (ended : (state a).in_transaction ≡ false → (r ≡ Err (SqliteFailure TransactionState)) × (b ≡ a)) (survives : Survives (state a) (state b) (λ _. ⊥)) (clean : IsTrue (state b).is_open → HasCleanDisk (state b)) where
  abbrev pub Ran : Result ℕ Error → Type 0
  Ran r = (HasCleanDisk (state b) → ExecutesInside 0 sql params (state a) (state b) r) ⊎ ((r ≡ Err (SqliteFailure TransactionState)) × (b ≡ a))

  pub ran_or : Ran r
  ran_or = elim (cases_Bool (state a).in_transaction) [ inl mode ↦ inl (λ c. ran c mode) | inr over ↦ inr (ended over) ]

  pub made_up : HasCleanDisk (state b) → OnOk r (IsTrue (state b).is_open)
  made_up sure = go r ran_or
    where
      go : (r : Result ℕ Error) → Ran r → OnOk r (IsTrue (state b).is_open)
      go (Ok n) (inl ran) = (ran sure).1.is_open
      go (Ok n) (inr e) = absurd (let f = e.0 in cc)
      go (Err x) h = tt

  -- it ran inside the transaction
  pub made_mode : OnOk r (IsTrue (state b).is_open → (state b).in_transaction ≡ true)
  made_mode = go r ran_or
    where
      go : (r : Result ℕ Error) → Ran r → OnOk r (IsTrue (state b).is_open → (state b).in_transaction ≡ true)
      go (Ok n) (inl ran) = λ up. (ran (clean up)).1.mode
      go (Ok n) (inr e) = absurd (let f = e.0 in cc)
      go (Err x) h = tt

  pub made_leaves : Leaves (state a) (state b)
  made_leaves = go r ran_or
    where
      both : (r : Result ℕ Error) → ExecutesInside 0 sql params (state a) (state b) r → IsTrue (state b).is_open → IsTrue (state a).is_open × ((state b).committed ≡ (state a).committed)
      both (Ok n) ran up = (ran.1.was_open, ran.1.committed_is)
      both (Err x) (inl it) up = elim it.1 [ inl same ↦ (same.0.was_open, same.0.committed_is) | inr back ↦ (back.was_open up, (back.undone up).1) ]
      both (Err x) (inr ends) up = (ends.2.0.was_open, ends.2.0.committed_is)

      go : (r : Result ℕ Error) → Ran r → Leaves (state a) (state b)
      go r (inl ran) = record { was_open = λ up. (both r (ran (clean up)) up).0; committed = λ up. (both r (ran (clean up)) up).1; survives = survives }
      go r (inr e) = subst (λ k. Leaves (state a) (state k)) (sym e.1) (leaves_self (state a))

module _ {H : Type 0} (state : H → State) (a b : H) (sql : List ℕ) (r : Result ℕ Error) (ran : HasCleanDisk (state b) → IsTrue (state a).in_transaction → ExecutesInside 0 sql [] (state a) (state b) r)
    (ended : (state a).in_transaction ≡ false → (r ≡ Err (SqliteFailure TransactionState)) × (b ≡ a)) (survives : Survives (state a) (state b) (λ _. ⊥)) (clean : IsTrue (state b).is_open → HasCleanDisk (state b)) where
  abbrev RanHere : Result ℕ Error → Type 0
  RanHere r = (HasCleanDisk (state b) → ExecutesInside 0 sql [] (state a) (state b) r) ⊎ ((r ≡ Err (SqliteFailure TransactionState)) × (b ≡ a))

  here : RanHere r
  here = ran_or state a b sql [] r ran ended survives clean

  table_made : (rows : Trees) (from : Schema) (table : Table) → IsCreate sql from table → rows (next_tree from) ≡ [] → IsInsideAs rows from (state a) → OnOk r (IsInsideAs rows (created from table) (state b))
  table_made rows from table is none inside = go r here
    where
      go : (r : Result ℕ Error) → RanHere r → OnOk r (IsInsideAs rows (created from table) (state b))
      go (Ok n) (inl ran) = λ up. creates rows sql from table is none (state a) (state b) n (ran (clean up)) inside
      go (Ok n) (inr e) = absurd (let f = e.0 in cc)
      go (Err x) h = tt

  index_made : (rows : Trees) (from : Schema) (at : ℕ) (table : Table) (index : Index) → IsIndexCreate sql from at table index → IsInsideAs rows from (state a) → OnOk r (IsInsideAs rows (indexed from table index) (state b))
  index_made rows from at table index is inside = go r here
    where
      go : (r : Result ℕ Error) → RanHere r → OnOk r (IsInsideAs rows (indexed from table index) (state b))
      go (Ok n) (inl ran) = λ up. creates_index rows sql from at table index is (state a) (state b) n (ran (clean up)) inside
      go (Ok n) (inr e) = absurd (let f = e.0 in cc)
      go (Err x) h = tt

  index_dropped : (rows : Trees) (from : Schema) (index : Index) → IsIndexDrop sql from index → IsInsideAs rows from (state a) → OnOk r (IsInsideAs rows (without_index from index.tree) (state b))
  index_dropped rows from index is inside = go r here
    where
      go : (r : Result ℕ Error) → RanHere r → OnOk r (IsInsideAs rows (without_index from index.tree) (state b))
      go (Ok n) (inl ran) = λ up. drops_index rows sql from index is (state a) (state b) n (ran (clean up)) inside
      go (Ok n) (inr e) = absurd (let f = e.0 in cc)
      go (Err x) h = tt

-- ---- what a part says of itself

module _ {S : Type 0} {g : Ghosts S} where
  -- one part after the other
  pub part_then : {a b c : Transaction S} → IsPart g a b → IsPart g b c → IsPart g a c
  part_then {a} {b} {c} p q = record { same_reference = q.same_reference ∙ p.same_reference; leaves = leaves_then (state g a.conn.now) (state g b.conn.now) (state g c.conn.now) p.leaves q.leaves }

  pub part_ran : {old new : Transaction S} (sql : List ℕ) (params : Row) {r : Result ℕ Error} → new.conn.ghost_name ≡ old.conn.ghost_name
      → (HasCleanDisk (state g new.conn.now) → IsTrue (state g old.conn.now).in_transaction → ExecutesInside 0 sql params (state g old.conn.now) (state g new.conn.now) r)
      → ((state g old.conn.now).in_transaction ≡ false → (r ≡ Err (SqliteFailure TransactionState)) × (new.conn.now ≡ old.conn.now)) → Survives (state g old.conn.now) (state g new.conn.now) (λ _. ⊥) → (IsTrue (state g new.conn.now).is_open → HasCleanDisk (state g new.conn.now))
      → IsPart g old new
  part_ran {old} {new} sql params {r} same ran ended survives clean = record { same_reference = same; leaves = made_leaves (state g) old.conn.now new.conn.now sql params r ran ended survives clean }

  -- a text was run
  pub alters : {old new : Transaction S} {sql : List ℕ} {r : Result ℕ Error} → new.conn.ghost_name ≡ old.conn.ghost_name
      → (HasCleanDisk (state g new.conn.now) → IsTrue (state g old.conn.now).in_transaction → ExecutesInside 0 sql [] (state g old.conn.now) (state g new.conn.now) r)
      → ((state g old.conn.now).in_transaction ≡ false → (r ≡ Err (SqliteFailure TransactionState)) × (new.conn.now ≡ old.conn.now)) → Survives (state g old.conn.now) (state g new.conn.now) (λ _. ⊥) → (IsTrue (state g new.conn.now).is_open → HasCleanDisk (state g new.conn.now))
      → Alters g (λ P. P) sql old new r
  alters {old} {new} {sql} {r} same ran ended survives clean = record {
    part = part_ran sql [] same ran ended survives clean;
    table = table_made (state g) old.conn.now new.conn.now sql r ran ended survives clean;
    index = index_made (state g) old.conn.now new.conn.now sql r ran ended survives clean;
    dropped = index_dropped (state g) old.conn.now new.conn.now sql r ran ended survives clean;
    up = made_up (state g) old.conn.now new.conn.now sql [] r ran ended survives clean;
  }
