use Rattle.std.proofs.Common.{◌≡◌, map, take}
use Rattle.serde_json.specs.View.{view}
use Rattle.ocpp_payload.proofs.written_kinds.write_each.Given as goal

abbrev pub invariant-loop-value : goal.invariant-loop-value
invariant-loop-value g l = map view l.items.items ≡ map (g.K.Written.holds l.kind).json (take l.value-index l.values)
