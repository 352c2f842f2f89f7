use Rattle.std.proofs.Common.{◌≡◌, IfOk, ap, subst, ◌∙◌}
use Rattle.store_mem.specs.NamedGroups.{rows_at, all_rows}
use Rattle.store_mem.specs.Open.{txs_of}
use Rattle.store_mem.proofs.OpenTxLaws.{open-txs}
use Rattle.store_mem.proofs.transactions.Transactions.open_copies.Goals as goal

pub returns : goal.returns
returns c =
    let s = c.args.self.now in
    let b = c.args.op.now in
    let txs = all_rows s.rows.items in
    let opens = c.rows_at-opens.ensures ∙ ap (rows_at b b) c.deref.ensures.value ∙ s.opened.each b b in
    subst (λ l. IfOk c.txs_of.result (λ x. x ≡ l))
    ((λ i. txs_of b (all_rows (c.deref-2.ensures.value i)) (opens i)) ∙ open-txs b txs s.sorted)
    c.txs_of.ensures
