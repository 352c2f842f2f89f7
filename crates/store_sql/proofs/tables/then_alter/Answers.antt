use Rattle.std.proofs.Common.{OnOk, subst}
use Rattle.sqlite.specs.Held.{state}
use Rattle.sql_rows.specs.Opening.{IsInsideAs}
use Rattle.store_sql.proofs.tables.then_alter.Goals as goal

pub returns-in-Ok-alter : goal.returns-in-Ok-alter
returns-in-Ok-alter g c =
    let ran = c.in-Ok-alter.ensures.alters in
    let old = state g.S.Store c.args.tx.now.conn.now in
    record {
      alters = record {
        part = ran.part;
        table = λ rows from table is none begun. ran.table rows from table is none (subst (λ r. OnOk r (IsInsideAs rows from old)) c.in-Ok.is begun);
        index = λ rows from at table index is begun. ran.index rows from at table index is (subst (λ r. OnOk r (IsInsideAs rows from old)) c.in-Ok.is begun);
        dropped = λ rows from index is begun. ran.dropped rows from index is (subst (λ r. OnOk r (IsInsideAs rows from old)) c.in-Ok.is begun);
        up = ran.up;
      };
    }
