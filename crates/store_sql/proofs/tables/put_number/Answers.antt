use Rattle.std.proofs.Common.{refl}
use Rattle.sqlite.specs.Held.{state}
use Rattle.sql_rows.proofs.StoreLemmas.{open_is_clean}
use Rattle.sql_rows.proofs.TxLemmas.{step}
use Rattle.sql_rows.proofs.MetaTable.{puts_number}
use Rattle.sql_rows.proofs.CreateLemmas.{made_leaves, made_mode, made_up}
use Rattle.sql_rows.proofs.RaisingLemmas.{filled_if}
use Rattle.store_sql.proofs.tables.put_number.Goals as goal

pub returns : goal.returns
returns g c =
    let old = c.args.tx.now.conn.now in
    let new = c.execute.new.self.conn.now in
    let clean = open_is_clean _ _ (g.met.S.Store.shut_if_dirty new.store) in
    record {
      makes = record {
        same_reference = c.execute.ensures.same_reference;
        leaves = λ may. made_leaves (state g.S.Store) old new _ _ c.execute.result c.execute.ensures.runs c.execute.ensures.ended c.execute.ensures.survives clean;
        has = λ all inside.
            filled_if all (state g.S.Store old) (state g.S.Store new) c.execute.result inside
            (step puts_number (state g.S.Store) old new _ c.execute.result c.execute.ensures.runs c.execute.ensures.ended c.execute.ensures.survives
            (rw (c.params-to_sql.ensures, c.params-to_sql-2.ensures) refl) clean (λ up. (inside up).0)).ok;
        mode = made_mode (state g.S.Store) old new _ _ c.execute.result c.execute.ensures.runs c.execute.ensures.ended c.execute.ensures.survives clean;
        up = made_up (state g.S.Store) old new _ _ c.execute.result c.execute.ensures.runs c.execute.ensures.ended c.execute.ensures.survives clean;
      };
    }
