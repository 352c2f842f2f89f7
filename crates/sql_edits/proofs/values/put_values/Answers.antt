use Rattle.std.proofs.Common.{rules, ◌≡◌, ◌+◌, ◌++◌, [], ◌∷◌, arith, subst, take}
use Rattle.std.proofs.lemmas.List.{take_all, take_more}
use Rattle.sqlite.specs.Held.{state}
use Rattle.hub_rows.specs.MeterValues.{meter_value_rows}
use Rattle.sql_rows.specs.Kept.{ArePutIn}
use Rattle.sql_rows.specs.TypedTables.{meter_values}
use Rattle.sql_rows.proofs.ValueEdits.{taken_more, values_made, values_more}
use Rattle.sql_rows.proofs.EditLaws.{edits_also, edits_fail, edits_stop, edits_then}
use Rattle.sql_edits.proofs.values.put_values.Goals as goal

pub values-preserved : goal.values-preserved
values-preserved g c =
    let all = c.args.values.now in
    let k = c.values.value-index in
    let x = c.value-item.result in
    let old = (state g.S.Store c.args.conn.now).now.trees in
    let mid = (state g.S.Store c.values.conn).now.trees in
    let new = (state g.S.Store c.put_value.new.conn).now.trees in
    let more : take (k + 1) all ≡ take k all ++ x ∷ [] = search (rules, take_more) in
    let longer = taken_more (take k all) (take (k + 1) all) x more in (
      omega (arith, c.values.invariant.0, longer, c.in_ok-number.ensures),
      edits_then c.values.invariant.1 c.in_ok-put_value.ensures.edits
          (λ inside up so_far one. values_more c.args.op.now c.args.station.now c.args.first (take k all) (take (k + 1) all) x c.values.number c.values.invariant.0 more old mid new so_far one),
    )

pub returns : goal.returns
returns g c =
    let op = c.args.op.now in
    let station = c.args.station.now in
    let first = c.args.first in
    let old = (state g.S.Store c.args.conn.now).now.trees in
    let new = (state g.S.Store c.values.conn).now.trees in
    let whole : take c.values.value-index c.args.values.now ≡ c.args.values.now = search (rules, take_all) in
    record {
      edits = edits_also c.values.invariant.1 (λ inside up put. values_made op station first c.args.values.now old new (subst (λ vs. ArePutIn meter_values (meter_value_rows op station first vs) old new) whole put));
    }

pub returns-in_err-put_value : goal.returns-in_err-put_value
returns-in_err-put_value g c = record { edits = edits_fail c.values.invariant.1 c.in_err-put_value.ensures.edits c.from_residual.ensures.0 }

pub returns-in_err-number : goal.returns-in_err-number
returns-in_err-number g c = record { edits = edits_stop (edits_then {Both = λ a b. Unit {0}} c.values.invariant.1 c.in_ok-put_value.ensures.edits (λ inside up so_far one. tt)) c.from_residual-in_err-number.ensures.0 }
