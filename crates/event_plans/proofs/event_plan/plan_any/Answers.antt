use Rattle.std.proofs.Common.{◌≡◌, ◌∙◌, ap, sym}
use Rattle.hub_rows.specs.Lookups.{lookups_at}
use Rattle.hub_rows.specs.Operators.{is_hosted}
use Rattle.pending_calls.specs.Slots.{slot_at}
use Rattle.registry.specs.StationDropped.{station_drop_rule}
use Rattle.station_calls.specs.Book.{book_answers, book_rows}
use Rattle.hub_events.specs.declared.event.What.{What}
use Rattle.plans.specs.Plans.{edit_plan}
use Rattle.plans.specs.Facts.{facts_of}
use Rattle.event_plans.specs.Table.{plan}
use Rattle.plans.proofs.Readiness.{ready_at}
use Rattle.event_plans.proofs.event_plan.plan_any.Goals as goal

pub returns-in-List-clause-ready : goal.returns-in-List-clause-ready
returns-in-List-clause-ready g c = ready_at (λ st. slot_at c.args.event.now.op.now st c.args.slots.now) c.plan_list.result c.plan_list.ensures.ready

pub returns-in_ok-edit_plan-in-DropStation-clause-plan : goal.returns-in_ok-edit_plan-in-DropStation-clause-plan
returns-in_ok-edit_plan-in-DropStation-clause-plan g c = λ clean.
    let it = c.in-DropStation in
    let b = c.args.event.now.op.now in
    let m = c.args.event.now.moment in
    let slots = c.args.slots.now in
    let rows = book_rows g.S.Store.view c.args.book.now in
    let connected : c.is_connected-is_connected.result ≡ (slot_at b it.station slots).is_connected
    = c.is_connected-is_connected.ensures ∙ (λ i. (slot_at (c.as_str-in-DropStation.ensures i) (c.as_str-in-DropStation-2.ensures i) slots).is_connected) in
    c.in_ok-edit_plan-in-DropStation.ensures
    ∙ ap edit_plan (c.in_ok-answer-in-DropStation.ensures.plan clean)
    ∙ (λ i. edit_plan (station_drop_rule it.station (connected i) m (lookups_at b rows)))
    ∙ sym (ap (λ (w : What). plan (is_hosted c.args.hosted.now) (book_answers g.V.VendorHandler.view c.args.book.now) w m (facts_of b rows slots)) it.is)
