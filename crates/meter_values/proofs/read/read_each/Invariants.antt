use Rattle.std.proofs.Common.{◌≡◌, drop}
use Rattle.json.specs.Value.{items_view}
use Rattle.meter_values.specs.Read.{each_sampled}
use Rattle.meter_values.proofs.EachLaws.{with_front}
use Rattle.meter_values.proofs.read.read_each.Given as goal

abbrev pub invariant-loop-item : goal.invariant-loop-item
invariant-loop-item l = with_front l.found (each_sampled (items_view (drop l.item-index l.items))) ≡ each_sampled (items_view l.items)
