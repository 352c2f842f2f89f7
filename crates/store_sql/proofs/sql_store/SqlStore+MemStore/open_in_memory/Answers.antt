use Rattle.std.proofs.Common.{IfOk, IsTrue, Ok, Err, Result, refl}
use Rattle.std.specs.Prelude.{⊤}
use Rattle.sqlite_trees.specs.View.{doubt}
use Rattle.sqlite.specs.Held.{state}
use Rattle.sqlite.specs.Steps.{over_memory}
use Rattle.sql_rows.specs.Opening.{IsOurs, Prepares}
use Rattle.sql_rows.proofs.OpeningLemmas.{ours_empty}
use Rattle.store_sql.specs.Store.{IsCleanSql}
use Rattle.store_sql.specs.declared.fault.PrepareFault.{PrepareFault as Unfit}
use Rattle.store_sql.proofs.sql_store.SqlStore+MemStore.open_in_memory.Goals as goal

both : {V E : Type 0} (P Q R : V → Type 0) (r : Result V E) → ((v : V) → P v → Q v → R v) → IfOk r P → IfOk r Q → IfOk r R
both P Q R (Ok v) joined p q = joined v p q
both P Q R (Err e) joined p q = tt

pub returns-clause-clean : goal.returns-clause-clean
unfolding doubt
returns-clause-clean c =
    let old = state over_memory c.in_ok-conn.conn in
    both (λ s. IsOurs old → IsTrue (state over_memory s.conn).is_open → IsCleanSql over_memory s) (λ s. Prepares {A = ⊤} {E = Unfit} old (state over_memory s.conn) (Ok tt)) (IsCleanSql over_memory) c.adopt.result
    (λ s clean prepared. clean (ours_empty old c.in_ok-conn.ensures.empty.2) (prepared.up refl)) c.adopt.ensures.clean c.adopt.ensures.prepares

pub returns-clause-kept : goal.returns-clause-kept
returns-clause-kept c = c.adopt.ensures.kept (ours_empty (state over_memory c.in_ok-conn.conn) c.in_ok-conn.ensures.empty.2)
