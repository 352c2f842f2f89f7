use Rattle.std.proofs.Common.{ℕ, List, ap, subst₂, ◌∙◌}
use Rattle.sqlite.specs.Held.{state}
use Rattle.hub_rows.specs.Forgetting.{has_number}
use Rattle.sql_rows.specs.Kept.{Edits, IsMade}
use Rattle.sql_edits.specs.Forget.{dropped}
use Rattle.sql_edits.specs.declared.forget.HistoryTable.TheVariants.{MeterValues, Transactions, Owners}
use Rattle.sql_rows.proofs.EditLaws.{edits_err, edits_fail, edits_then}
use Rattle.sql_edits.proofs.forget.forget.Goals as goal

pub returns : goal.returns
returns g c =
    let op = c.args.op.now in
    let station = c.args.station.now in
    let values = c.as_slice-values.result.now in
    let txs = c.as_slice-txs.result.now in
    let two = edits_then {Both = IsMade (λ rows. dropped Transactions op station (has_number txs) (dropped MeterValues op station (has_number values) rows))} c.in_ok-drop_rows.ensures.edits c.in_ok-drop_rows-2.ensures.edits
    (λ inside up one made. made ∙ ap (dropped Transactions op station (has_number txs)) one) in
    let whole : Edits (λ rows. dropped Owners op station (has_number txs) (dropped Transactions op station (has_number txs) (dropped MeterValues op station (has_number values) rows))) (state g.S.Store c.args.conn.now) (state g.S.Store c.drop_rows-3.new.conn) c.drop_rows-3.result =
    edits_then two c.drop_rows-3.ensures.edits (λ inside up both made. made ∙ ap (dropped Owners op station (has_number txs)) both) in
    record {
      edits = subst₂ (λ (v t : List ℕ). Edits (λ rows. dropped Owners op station (has_number t) (dropped Transactions op station (has_number t) (dropped MeterValues op station (has_number v) rows))) (state g.S.Store c.args.conn.now) (state g.S.Store c.drop_rows-3.new.conn) c.drop_rows-3.result)
          c.as_slice-values.ensures c.as_slice-txs.ensures whole;
    }

pub returns-in_err-drop_rows-2 : goal.returns-in_err-drop_rows-2
returns-in_err-drop_rows-2 g c = record { edits = edits_fail c.in_ok-drop_rows.ensures.edits c.in_err-drop_rows-2.ensures.edits c.from_residual-in_err-drop_rows-2.ensures.0 }

pub returns-in_err-drop_rows : goal.returns-in_err-drop_rows
returns-in_err-drop_rows g c = record { edits = edits_err c.in_err-drop_rows.ensures.edits c.from_residual.ensures.0 }
