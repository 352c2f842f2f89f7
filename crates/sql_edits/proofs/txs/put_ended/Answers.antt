use Rattle.sqlite.specs.Held.{state}
use Rattle.hub_rows.specs.Changes.{with_stop}
use Rattle.hub_rows.specs.Keyed.{by_key, put}
use Rattle.hub_rows.specs.Rows.{Rows, tx_key}
use Rattle.sql_rows.specs.Kept.{IsMade}
use Rattle.sql_rows.proofs.HubTables.{made_later}
use Rattle.sql_rows.proofs.TxTables.{puts_tx, updates_tx}
use Rattle.sql_rows.proofs.EditLaws.{edits_done, edits_else, edits_failed, edits_ran, edits_update}
use Rattle.sql_edits.proofs.txs.put_ended.Goals as goal

pub returns-then-branch : goal.returns-then-branch
returns-then-branch g c =
    let row = with_stop c.args.stop.now c.args.row.now in
    let Puts = IsMade (λ (rows : Rows). record rows { transactions = put (by_key tx_key) row rows.transactions }) in
    let told = c.in_ok-changed_any.ensures in
    record { edits = edits_done Puts _ (edits_update Puts (updates_tx row) _ c.run_ended.ensures.ran told.ok told.any) c.if-branch.true }

pub returns-else-branch : goal.returns-else-branch
returns-else-branch g c =
    let row = with_stop c.args.stop.now c.args.row.now in
    let puts = λ (rows : Rows). record rows { transactions = put (by_key tx_key) row rows.transactions } in
    let old = (state g.S.Store c.args.conn.now).now.trees in
    let mid = (state g.S.Store c.run_ended.new.conn).now.trees in
    let new = (state g.S.Store c.run_ended-else-branch.new.conn).now.trees in
    let told = c.in_ok-changed_any.ensures in
    record {
      edits = edits_else (IsMade puts) _ (edits_update (IsMade puts) (updates_tx row) _ c.run_ended.ensures.ran told.ok told.any) c.if-branch.false
          (edits_ran (puts_tx row) c.run_ended-else-branch.ensures.ran c.done.ensures.ok c.done.ensures.err) (made_later puts old mid new);
    }

pub returns-in_err-changed_any : goal.returns-in_err-changed_any
returns-in_err-changed_any g c = record { edits = edits_failed (updates_tx (with_stop c.args.stop.now c.args.row.now)) _ c.run_ended.ensures.ran c.in_err-changed_any.ensures.err c.from_residual.ensures.0 }
