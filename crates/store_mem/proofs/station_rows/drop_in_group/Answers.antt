use Rattle.std.proofs.Common.{◌||◌, nat_lt, not, filter, rules, ◌∙◌}
use Rattle.std.proofs.lemmas.Fn.{filter_same}
use Rattle.hub_rows.specs.Forgetting.{has_number}
use Rattle.store_mem.proofs.NumberLaws.{none-above}
use Rattle.store_mem.proofs.station_rows.drop_in_group.Goals as goal

pub returns-clause-rows : goal.returns-clause-rows
returns-clause-rows g c =
    let ns = c.args.numbers.now in
    let number = g.R.NumberedRow.number in
    let rows = c.args.group.now.rows.items in
    filter_same _ (λ r. nat_lt c.greatest-last.result (number r) || not (has_number ns (number r))) _ (λ x b f' called. search rules) _ _ c.retain.ensures.filtered
    ∙ (λ i. filter (λ r. nat_lt (c.greatest-last.ensures i) (number r) || not (has_number ns (number r))) rows)
    ∙ (λ i. filter (λ r. none-above ns (number r) i) rows)
