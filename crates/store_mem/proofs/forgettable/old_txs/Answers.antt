use Rattle.std.proofs.Common.{◌≡◌, ◌+◌, ◌++◌, ◌∷◌, [], ◌&&◌, not, cond, drop, ap, sym, ◌∙◌, append_assoc}
use Rattle.std.specs.List.{filter}
use Rattle.hub_rows.specs.Forgetting.{is_over, tx_goes}
use Rattle.hub_rows.proofs.Steps.{drop_here}
use Rattle.store_mem.proofs.forgettable.old_txs.Goals as goal
use Rattle.store_mem.proofs.forgettable.old_txs.Goals.{then-goes+in_ok-copy+in_ok-push, else-goes}

pub loop-tx-preserved : goal.loop-tx-preserved
loop-tx-preserved c =
    let l = c.loop-tx in
    let tx = c.tx-item.result in
    let p = tx_goes c.args.until c.args.values.now in
    let rest = filter p (drop (l.tx-index + 1) c.args.txs.now) in
    let same : c.goes.result ≡ p tx = c.goes.ensures ∙ ap (λ b. is_over c.args.until tx && not b) (c.in_ok-named.ensures tx.number) in
    let left = ap (filter p) (drop_here c.args.txs.now l.tx-index tx c.loop-tx-test.true c.tx-item.is) ∙ ap (λ b. cond b (tx ∷ rest) rest) (sym same) in
    elim c.if-goes.branch [
      | then-goes+in_ok-copy+in_ok-push w ↦
          ap (λ ts. ts ++ rest) (w.gone-is ∙ w.in_ok-push.ensures.ok ∙ ap (λ t. l.gone ++ t ∷ []) w.in_ok-copy.ensures) ∙ append_assoc l.gone (tx ∷ []) rest
          ∙ ap (λ ts. l.gone ++ ts) (sym (left ∙ ap (λ b. cond b (tx ∷ rest) rest) w.if-goes.true)) ∙ l.invariant
      | else-goes w ↦ ap (λ ts. ts ++ rest) w.gone-is ∙ ap (λ ts. l.gone ++ ts) (sym (left ∙ ap (λ b. cond b (tx ∷ rest) rest) w.if-goes.false)) ∙ l.invariant
    ]
