use Rattle.std.proofs.Common.{ap, sym, subst, subst₂, ◌∙◌}
use Rattle.sqlite.specs.Held.{state}
use Rattle.hub_rows.specs.Changes.{edit, with_meter_values}
use Rattle.hub_rows.specs.Rows.{Rows}
use Rattle.hub_rows.specs.Uses.{with_owner}
use Rattle.hub_rows.specs.declared.change.TransactionEdit.{TransactionEdit}
use Rattle.hub_rows.specs.declared.change.Edit.TheVariants.{Transactions}
use Rattle.hub_rows.specs.declared.change.TransactionEdit.TheVariants.{TxStarted, TxStopped, MeterValuesAdded, Forgotten}
use Rattle.sql_rows.specs.Kept.{Edits}
use Rattle.sql_rows.proofs.EditLaws.{edits_err, edits_then}
use Rattle.sql_edits.proofs.changes.edit_transactions.Goals as goal

pub returns-in_ok-start_tx-in-TxStarted : goal.returns-in_ok-start_tx-in-TxStarted
returns-in_ok-start_tx-in-TxStarted g c =
    let op = c.args.op.now in
    let it = c.in-TxStarted in
    let station = c.as_str-station.result.now in
    let made = λ (e : TransactionEdit). Edits (edit op (Transactions e)) (state g.S.Store c.args.conn.now) (state g.S.Store c.put_owner.new.conn) c.put_owner.result in
    let both : made (TxStarted station it.number it.start it.owner) = edits_then c.in_ok-start_tx-in-TxStarted.ensures.edits c.put_owner.ensures.edits
    (λ inside up started put. put ∙ ap {A = Rows} (λ rows. record rows { tx_owners = with_owner op station it.number it.owner rows.tx_owners }) started) in
    record { edits = subst made (sym it.is) (subst (λ s. made (TxStarted s it.number it.start it.owner)) c.as_str-station.ensures both) }

pub returns-in_ok-stop_tx-in-TxStopped : goal.returns-in_ok-stop_tx-in-TxStopped
returns-in_ok-stop_tx-in-TxStopped g c =
    let op = c.args.op.now in
    let it = c.in-TxStopped in
    let station = c.as_str-station-in-TxStopped.result.now in
    let values = c.as_slice.result.now in
    let made = λ (e : TransactionEdit). Edits (edit op (Transactions e)) (state g.S.Store c.args.conn.now) (state g.S.Store c.put_values.new.conn) c.put_values.result in
    let both : made (TxStopped station it.number it.stop it.first values) = edits_then c.in_ok-stop_tx-in-TxStopped.ensures.edits c.put_values.ensures.edits
    (λ inside up stopped put. put ∙ ap {A = Rows} (λ rows. record rows { meter_values = with_meter_values op station it.first values rows.meter_values }) stopped) in
    record { edits = subst made (sym it.is) (subst₂ (λ s v. made (TxStopped s it.number it.stop it.first v)) c.as_str-station-in-TxStopped.ensures c.as_slice.ensures both) }

pub returns-in-MeterValuesAdded : goal.returns-in-MeterValuesAdded
returns-in-MeterValuesAdded g c =
    let it = c.in-MeterValuesAdded in
    let made = λ (e : TransactionEdit). Edits (edit c.args.op.now (Transactions e)) (state g.S.Store c.args.conn.now) (state g.S.Store c.put_values-in-MeterValuesAdded.new.conn) c.put_values-in-MeterValuesAdded.result in
    record { edits = subst made (sym it.is) (subst₂ (λ s v. made (MeterValuesAdded s it.first v)) c.as_str.ensures c.as_slice-in-MeterValuesAdded.ensures c.put_values-in-MeterValuesAdded.ensures.edits) }

pub returns-in-Forgotten : goal.returns-in-Forgotten
returns-in-Forgotten g c =
    let it = c.in-Forgotten in
    let made = λ (e : TransactionEdit). Edits (edit c.args.op.now (Transactions e)) (state g.S.Store c.args.conn.now) (state g.S.Store c.forget.new.conn) c.forget.result in
    record { edits = subst made (sym it.is) (subst (λ s. made (Forgotten s it.rows)) c.as_str-in-Forgotten.ensures c.forget.ensures.edits) }

pub returns-in_err-start_tx-in-TxStarted : goal.returns-in_err-start_tx-in-TxStarted
returns-in_err-start_tx-in-TxStarted g c = record { edits = edits_err c.in_err-start_tx-in-TxStarted.ensures.edits c.from_residual.ensures.0 }

pub returns-in_err-stop_tx-in-TxStopped : goal.returns-in_err-stop_tx-in-TxStopped
returns-in_err-stop_tx-in-TxStopped g c = record { edits = edits_err c.in_err-stop_tx-in-TxStopped.ensures.edits c.from_residual-in_err-stop_tx-in-TxStopped.ensures.0 }
