use Rattle.std.proofs.Common.{◌≡◌, ◌==◌, true, false, find, unsigned_abs, rules, sym, ap, ◌∙◌}
use Rattle.std.specs.Int.{is_negative}
use Rattle.hub_rows.specs.Forgetting.{named_tx}
use Rattle.store_mem.proofs.forgettable.named_tx.Goals as goal
use Rattle.hub_rows.proofs.ForgetLaws.{named-none, named-some}

pub returns-in-Some : goal.returns-in-Some
returns-in-Some c =
    let txs = c.args.txs.now in
    let sign : is_negative c.in-Some.id ≡ true = search rules in
    sym (ap (λ o. named_tx o txs) c.in-Some.is ∙ named-none c.in-Some.id txs sign)

pub returns-in-Some-2 : goal.returns-in-Some-2
returns-in-Some-2 c =
    let txs = c.args.txs.now in
    let sign : is_negative c.in-Some-2.id ≡ false = search rules in
    let size : c.unsigned_abs.result ≡ unsigned_abs c.in-Some-2.id = search rules in
    c.row_in.ensures ∙ ap (λ n. find (λ t. t.number == n) txs) size ∙ sym (ap (λ o. named_tx o txs) c.in-Some-2.is ∙ named-some c.in-Some-2.id txs sign)
