use Rattle.std.proofs.Common.{ℕ, OnOk, subst, ◌≤◌, arith}
use Rattle.sqlite.specs.Held.{state}
use Rattle.sql_tables.proofs.Creates.{reader_made, fifth_made}
use Rattle.sql_rows.specs.Opening.{IsInsideAs}
use Rattle.store_sql.proofs.tables.create_fifth.Goals as goal

itself : (t : ℕ) → t ≤ t
itself t = omega arith

pub returns : goal.returns
returns g c = record {
  makes = record {
    part = c.then_alter.ensures.alters.part;
    makes = λ rows begins.
        subst (λ s. OnOk c.then_alter.result (IsInsideAs rows s (state g.S.Store c.then_alter.new.tx.conn.now))) fifth_made (c.then_alter.ensures.alters.table rows _ _ reader_made (begins.0 _ (itself _)) begins.1);
  };
}
