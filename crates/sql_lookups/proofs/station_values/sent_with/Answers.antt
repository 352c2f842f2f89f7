use Rattle.std.proofs.Common.{rules, Some}
use Rattle.std.proofs.lemmas.Fn.{filter_same}
use Rattle.hub_rows.specs.MeterValues.{is_sent_with}
use Rattle.sql_lookups.proofs.station_values.sent_with.Goals as goal

pub returns : goal.returns
returns c =
    let kept = filter_same _ (λ m. is_sent_with (Some c.args.wanted) m.value.transaction) _ (λ x b f' called. search rules) _ _ c.retain.ensures.filtered in
    search (rules, kept)
