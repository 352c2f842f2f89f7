-- The store: a connection, the count of its failures, the connection that it took over, and its changes.
use Rattle.std.specs.Prelude.{◌≡◌, ◌⊎◌, ◌+◌, ◌<◌, ℕ, Bool, false, true, IsTrue, refl}
use Rattle.std.specs.Coded.{Coded, code_by, coded×, coded_bool, coded_ℕ}
use Rattle.sqlite_trees.specs.Tree.{Trees}
use Rattle.sqlite_trees.specs.declared.store.Store.{Ghosts}
use Rattle.sqlite.specs.Held.{Held, held_code, state}
use Rattle.sqlite.specs.State.{State, HasCleanDisk}
use Rattle.hub_rows.specs.Rows.{Rows}
use Rattle.hub_rows.specs.StoreView.{StoreView}
use Rattle.hub_rows.specs.WellFormed.{WellFormedRows}
use Rattle.sql_rows.specs.Kept.{Serves, changes_in}
use Rattle.sql_rows.specs.Opening.{IsOurs}
use Rattle.sql_rows.specs.TypedTables.{rows_of}

pub record SqlView (S : Type 0) : Type 0 where
  pub conn : Held S
  pub failures : ℕ
  pub taken : Held S
  -- how many changes are on record
  pub changes : ℕ
  -- how many wait for a flush
  pub waiting : ℕ
  -- whether some that waited are gone
  pub lost : Bool

abbrev pub sql_code : {S : Type 0} → Coded S → Coded (SqlView S)
sql_code {S} store =
    code_by (Held S × (ℕ × (Held S × (ℕ × (ℕ × Bool))))) (coded× (held_code store) (coded× coded_ℕ (coded× (held_code store) (coded× coded_ℕ (coded× coded_ℕ coded_bool))))) (λ v. (v.conn, (v.failures, (v.taken, (v.changes, (v.waiting, v.lost))))))
    (λ p. record { conn = p.0; failures = p.1.0; taken = p.1.1.0; changes = p.1.1.1.0; waiting = p.1.1.1.1.0; lost = p.1.1.1.1.1 }) (λ _. refl)

-- how many changes were made: those on record, and those that wait
abbrev pub all_changes : {S : Type 0} → SqlView S → ℕ
all_changes s = s.changes + s.waiting

-- so many were made, and these more, as far as the count goes
abbrev pub HasCounted : {S : Type 0} → SqlView S → ℕ → SqlView S → Type 0
HasCounted old more new = all_changes new < 18_446_744_073_709_551_615 → all_changes new ≡ all_changes old + more

-- all changes that wait are in the batch that is open
pub record HoldsAll (s : State) (waiting : ℕ) (lost : Bool) : Type 0 where
  pub kept : lost ≡ false
  pub begun : (waiting ≡ 0) ⊎ (s.in_transaction ≡ true)

-- what an open connection keeps that was taken over with rows that were ours: so many changes are on record, and with
-- none that waits no batch is open
pub record Keeps (s : State) (changes waiting : ℕ) (lost : Bool) : Type 0 where
  pub serves : Serves s
  pub now : lost ≡ false → WellFormedRows (rows_of s.now.trees)
  pub last : WellFormedRows (rows_of s.committed.trees)
  pub counted : changes ≡ changes_in s.committed.trees
  pub rested : lost ≡ false → waiting ≡ 0 → s.in_transaction ≡ false

abbrev pub KeepsIfOurs : State → State → ℕ → ℕ → Bool → Type 0
KeepsIfOurs taken s changes waiting lost = IsOurs taken → IsTrue s.is_open → Keeps s changes waiting lost

-- what was taken over was ours, the connection is open, its rows are well formed, which follows, and no change is gone
pub record IsWhole (taken s : State) (waiting : ℕ) (lost : Bool) : Type 0 where
  pub ours : IsOurs taken
  pub up : IsTrue s.is_open
  pub good : WellFormedRows (rows_of s.now.trees)
  pub all : HoldsAll s waiting lost

module _ {S : Type 0} (g : Ghosts S) where
  abbrev pub sql_rows : SqlView S → Rows
  sql_rows s = rows_of (state g s.conn).now.trees

  abbrev pub IsCleanSql : SqlView S → Type 0
  IsCleanSql s = IsWhole (state g s.taken) (state g s.conn) s.waiting s.lost

  -- the disk has returned what was written, and a stop now leaves tables with these rows
  abbrev pub sql_may_find : SqlView S → Rows → Type 0
  sql_may_find s r = HasCleanDisk (state g s.conn) × (db : Trees) × (state g s.conn).may_leave db × (r ≡ rows_of db)

  -- the store, as the trait sees it
  abbrev pub sql_view : SqlView S → StoreView
  sql_view s = record { rows = sql_rows s; failures = s.failures; clean = IsCleanSql s; sound = IsOurs (state g s.taken); was_sound = λ clean. clean.ours; may_find = sql_may_find s }
