use Rattle.std.proofs.Common.{◌+◌, ap, sym, ◌∙◌, drop}
use Rattle.json.specs.Value.{items_view}
use Rattle.meter_values.specs.Read.{each_sampled}
use Rattle.meter_values.proofs.EachLaws.{with_front, each-item}
use Rattle.meter_values.proofs.read.read_each.Goals as goal

pub loop-item-preserved : goal.loop-item-preserved
loop-item-preserved c =
    let i = c.loop-item.item-index in
    let items = c.args.items.now in
    let read = sym c.in-Some.is ∙ c.in_ok-sampled.ensures in
    ap (λ f. with_front f (each_sampled (items_view (drop (i + 1) items)))) c.in_ok-push.ensures.ok
    ∙ sym (each-item c.loop-item.found items i c.item-item.result c.loop-item-test.true c.item-item.is c.in-Some.sampled read) ∙ c.loop-item.invariant
