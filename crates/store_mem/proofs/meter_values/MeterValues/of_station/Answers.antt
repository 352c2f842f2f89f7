use Rattle.std.proofs.Common.{◌≡◌, IfOk, ap, sym, ◌∙◌, subst}
use Rattle.std.specs.List.{filter}
use Rattle.std.specs.Str.{bytes_eq}
use Rattle.hub_rows.specs.Keyed.{those}
use Rattle.hub_rows.specs.MeterValues.{is_sent_with}
use Rattle.hub_rows.proofs.ListLaws.{and-true}
use Rattle.hub_rows.proofs.NumberLaws.{those-those}
use Rattle.store_mem.specs.NamedGroups.{all_rows}
use Rattle.store_mem.proofs.meter_values.MeterValues.of_station.Goals as goal

pub returns : goal.returns
returns c =
    let n = c.args.transaction in
    let all = all_rows c.args.self.now.rows.items in
    subst (λ l. IfOk c.sent_with.result (λ x. x ≡ l))
    (ap (filter (λ r. is_sent_with n r.value.transaction)) (c.rows_of.ensures ∙ (λ i. those (λ r. r.op) c.args.op.now (λ r. and-true (bytes_eq r.station c.args.station.now) i) all))
    ∙ sym (those-those (λ r. r.op) c.args.op.now (λ r. bytes_eq r.station c.args.station.now) (λ r. is_sent_with n r.value.transaction) all))
    c.sent_with.ensures
