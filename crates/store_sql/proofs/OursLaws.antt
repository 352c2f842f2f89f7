-- What serves, with records that are well formed, was written by this project, and is not refused.
use Rattle.std.specs.Prelude.{◌≡◌, ℕ, zero, suc, length, IsTrue, IfErr, OnErr, Result, Ok, Err}
use Rattle.std.proofs.Common.{sym, ◌∙◌, ap, arith, subst}
use Rattle.sqlite.specs.Effect.{Database}
use Rattle.sqlite_schema.specs.declared.schema.Schema.{Schema}
use Rattle.sqlite.specs.State.{State}
use Rattle.hub_rows.specs.WellFormed.{WellFormedRows}
use Rattle.sql_tables.specs.Tables.{hub_schema}
use Rattle.sql_tables.specs.Opening.{our_form, schema_at}
use Rattle.sql_rows.specs.Kept.{IsServing, Serves}
use Rattle.sql_rows.specs.Opening.{IsOurs}
use Rattle.sql_rows.specs.TypedTables.{rows_of}
use Rattle.store_sql.specs.Faults.{IsFailure}
use Rattle.store_sql.specs.Known.{IsKnown}
use Rattle.store_sql.specs.declared.fault.PrepareFault.{PrepareFault}

-- a schema that is ours and of a form has as many tables as ours
as_many : (s : State) (form : ℕ) → Serves s → s.now.schema ≡ schema_at form → length hub_schema.tables ≡ length (schema_at form).tables
as_many s form serves same = ap (λ (d : Schema). length d.tables) (sym serves.now.schema ∙ same)

pub serves_ours : (s : State) → Serves s → WellFormedRows (rows_of s.now.trees) → IsOurs s
serves_ours s serves good zero same = let many = as_many s 0 serves same in absurd (omega (arith, many))
serves_ours s serves good (suc zero) same = let many = as_many s 1 serves same in absurd (omega (arith, many))
serves_ours s serves good (suc (suc zero)) same = let many = as_many s 2 serves same in absurd (omega (arith, many))
serves_ours s serves good (suc (suc (suc zero))) same = let many = as_many s 3 serves same in absurd (omega (arith, many))
serves_ours s serves good (suc (suc (suc (suc zero)))) same = let many = as_many s 4 serves same in absurd (omega (arith, many))
serves_ours s serves good (suc (suc (suc (suc (suc zero))))) same = let many = as_many s 5 serves same in absurd (omega (arith, many))
serves_ours s serves good (suc (suc (suc (suc (suc (suc n)))))) same = record { typed = serves.now.rows; good = good; numbered = λ some. serves.now.numbered }

serves_known : (s : State) → Serves s → IsKnown our_form s.now
serves_known s serves = record { tables = record { some = omega arith; known = omega arith; is = serves.now.schema }; typed = serves.now.rows; numbered = serves.now.numbered }

-- a database that serves is not refused; the connection is first given another limit of steps
pub accepts_serving : {A : Type 0} (old mid new : State) (r : Result A PrepareFault) → mid.now ≡ old.now → (IsTrue mid.is_open → IsTrue old.is_open) → (IsTrue new.is_open → OnErr r (IsTrue mid.is_open × (new.now ≡ mid.now)))
    → ((form : ℕ) → IsKnown form mid.now → IsTrue new.is_open → IfErr r IsFailure) → IsServing old → IsTrue new.is_open → IfErr r IsFailure
accepts_serving old mid new (Ok x) same was refused accepts serves up = tt
accepts_serving old mid new (Err f) same was refused accepts serves up = accepts our_form (subst (λ (d : Database). IsKnown our_form d) (sym same) (serves_known old (serves (was (refused up).0)))) up
