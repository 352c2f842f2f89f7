use Rattle.std.proofs.Common.{◌≡◌, drop}
use Rattle.json_data.specs.View.{items_view}
use Rattle.ocpp_payload.specs.Lists.{each}
use Rattle.ocpp_payload.proofs.Each.{with_front}
use Rattle.ocpp_payload.proofs.lists.each.Given as goal

abbrev pub invariant-loop-item : goal.invariant-loop-item
invariant-loop-item g l =
    with_front l.found (each (g.K.Kind.reads l.kind l.field) (items_view (drop l.item-index l.items))) ≡ each (g.K.Kind.reads l.kind l.field) (items_view l.items)
