use Rattle.std.proofs.Common.{ap, sym, ◌∙◌, ◌+◌, drop}
use Rattle.std.proofs.lemmas.Result.{err_from_is_err_and}
use Rattle.json_data.specs.View.{items_view}
use Rattle.ocpp_payload.specs.Lists.{each}
use Rattle.ocpp_payload.proofs.Each.{with_front, each-item, each-fails}
use Rattle.ocpp_payload.proofs.lists.each.Goals as goal

pub loop-item-preserved : goal.loop-item-preserved
loop-item-preserved g c =
    let read = g.K.Kind.reads c.args.kind.now c.args.field.now in
    let next = each-item read c.loop-item.found c.args.items.now c.loop-item.item-index c.item-item.result c.in_ok-read.field-0 c.loop-item-test.true c.item-item.is c.in_ok-read.ensures in
    ap (λ f. with_front f (each read (items_view (drop (c.loop-item.item-index + 1) c.args.items.now)))) c.in_ok-push.ensures.ok
    ∙ sym next ∙ c.loop-item.invariant

pub returns-in_err-read : goal.returns-in_err-read
returns-in_err-read g c =
    let p = err_from_is_err_and c.from_residual.result c.from_residual.ensures.1 in
    let read = g.K.Kind.reads c.args.kind.now c.args.field.now in
    rw (p.1, p.2)
    (each-fails c.in_err-read.field-0.0 read c.loop-item.found c.args.items.now c.loop-item.item-index c.item-item.result c.loop-item-test.true c.item-item.is
    c.in_err-read.ensures c.loop-item.invariant)
