use Rattle.std.proofs.Common.{◌≡◌, drop}
use Rattle.json.specs.Value.{members_view}
use Rattle.repairs.specs.Readings.{has_unnamed}
use Rattle.repairs.proofs.readings.has_unnamed.Given as goal

abbrev pub invariant-loop-name : goal.invariant-loop-name
invariant-loop-name l = has_unnamed (members_view (drop l.name-index l.members)) ≡ has_unnamed (members_view l.members)
