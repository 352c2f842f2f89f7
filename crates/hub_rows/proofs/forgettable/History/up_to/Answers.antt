use Rattle.std.proofs.Common.{rules, nat_le}
use Rattle.std.proofs.lemmas.Fn.{filter_same}
use Rattle.hub_rows.proofs.forgettable.History.up_to.Goals as goal

pub returns : goal.returns
returns c =
    let values = filter_same _ (λ r. nat_le r.first c.args.reading) _ (λ x b f' called. search rules) _ _ c.retain.ensures.filtered in
    let txs = filter_same _ (λ t. nat_le t.number c.args.transaction) _ (λ x b f' called. search rules) _ _ c.retain-2.ensures.filtered in
    search (rules, values, txs)
