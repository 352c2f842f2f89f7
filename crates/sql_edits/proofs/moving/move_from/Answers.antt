use Rattle.std.proofs.Common.{◌<◌, ◌∙◌, arith, sym}
use Rattle.sqlite.specs.Held.{state}
use Rattle.sql_rows.specs.Opening.{values_form}
use Rattle.sql_rows.proofs.RaisingLemmas.{from_before, from_values}
use Rattle.sql_edits.specs.Moving.{IsKeptFrom}
use Rattle.sql_edits.proofs.Making.{makes_as, makes_if, makes_none}
use Rattle.sql_edits.proofs.moving.move_from.Goals as goal

pub returns-then-form-ge-VALUES_FORM-clause-makes : goal.returns-then-form-ge-VALUES_FORM-clause-makes
returns-then-form-ge-VALUES_FORM-clause-makes g c =
    let form = c.args.form in
    let later : form < values_form → ⊥ = λ earlier. omega (arith, earlier, c.if-form-ge-VALUES_FORM.true) in
    makes_if (makes_none {Edit = IsKeptFrom form} (sym (from_values form later (state g.S.Store c.args.tx.now.conn.now).now.trees))) (λ s begins up. (begins up).0)

pub returns-clause-makes : goal.returns-clause-makes
returns-clause-makes g c =
    let form = c.args.form in
    let earlier : form < values_form = omega (arith, c.if-form-ge-VALUES_FORM.false) in
    let old = (state g.S.Store c.args.tx.now.conn.now).now.trees in
    makes_as (makes_if c.move_readings.ensures.makes (λ s begins up. ((begins up).0, (begins up).1 earlier))) (λ begins was moved. moved ∙ sym (from_before form earlier old))
