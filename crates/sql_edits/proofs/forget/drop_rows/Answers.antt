use Rattle.std.proofs.Common.{rules, ◌≡◌, ◌∙◌, ◌+◌, [], ◌∷◌, drop, get_or, refl, subst, sym}
use Rattle.std.proofs.lemmas.List.{drop_all, drop_more}
use Rattle.sqlite.specs.Held.{state}
use Rattle.sql_rows.specs.TypedTables.{rows_of}
use Rattle.sql_edits.proofs.Forgotten.{AreBut, dropped_none, one_less}
use Rattle.sql_rows.proofs.EditLaws.{edits_also, edits_fail, edits_none, edits_then}
use Rattle.sql_edits.proofs.forget.drop_rows.Goals as goal

pub numbers-init : goal.numbers-init
numbers-init g c = edits_none refl

pub numbers-preserved : goal.numbers-preserved
numbers-preserved g c =
    let all = c.args.numbers.now in
    let k = c.numbers.number-index in
    let x = get_or all k 0 in
    let old = (state g.S.Store c.args.conn.now).now.trees in
    let mid = (state g.S.Store c.numbers.conn).now.trees in
    let new = (state g.S.Store c.drop_row.new.conn).now.trees in
    let next : drop k all ≡ x ∷ drop (k + 1) all = search (rules, drop_more) in
    edits_then c.numbers.invariant c.in_ok-drop_row.ensures.edits
    (λ inside up so_far made. one_less c.args.history c.args.op.now c.args.station.now x (drop (k + 1) all) all old mid new (subst (λ left. AreBut c.args.history c.args.op.now c.args.station.now left all old mid) next so_far) made)

pub returns : goal.returns
returns g c =
    let history = c.args.history in
    let op = c.args.op.now in
    let station = c.args.station.now in
    let all = c.args.numbers.now in
    let old = (state g.S.Store c.args.conn.now).now.trees in
    let new = (state g.S.Store c.numbers.conn).now.trees in
    let none : drop c.numbers.number-index all ≡ [] = search (rules, drop_all) in
    record { edits = edits_also c.numbers.invariant (λ inside up so_far. sym (dropped_none history op station (rows_of new)) ∙ subst (λ left. AreBut history op station left all old new) none so_far) }

pub returns-in_err-drop_row : goal.returns-in_err-drop_row
returns-in_err-drop_row g c = record { edits = edits_fail c.numbers.invariant c.in_err-drop_row.ensures.edits c.from_residual.ensures.0 }
