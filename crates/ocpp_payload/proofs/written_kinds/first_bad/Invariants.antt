use Rattle.std.proofs.Common.{◌≡◌, drop}
use Rattle.ocpp_payload.specs.Holds.{first_bad}
use Rattle.ocpp_payload.proofs.written_kinds.first_bad.Given as goal

abbrev pub invariant-loop-value : goal.invariant-loop-value
invariant-loop-value g l =
    first_bad ((g.K.Written.holds l.kind).bad l.field) (drop l.value-index l.values) ≡ first_bad ((g.K.Written.holds l.kind).bad l.field) l.values
