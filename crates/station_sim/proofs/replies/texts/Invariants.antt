use Rattle.std.proofs.Common.{◌≡◌, drop}
use Rattle.json_data.specs.View.{items_view}
use Rattle.station_sim.specs.Replies.{texts}
use Rattle.station_sim.proofs.Texts.{followed}
use Rattle.station_sim.proofs.replies.texts.Given as goal

abbrev pub invariant-loop-item : goal.invariant-loop-item
invariant-loop-item l = followed l.found.items (texts (items_view (drop l.item-index l.items))) ≡ texts (items_view l.items)
