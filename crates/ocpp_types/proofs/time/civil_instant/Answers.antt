use Rattle.std.proofs.Common.{ap, ◌∙◌}
use Rattle.jiff_core.specs.DateTime.{civil_nanos}
use Rattle.ocpp_types.specs.Time.{civil_instant}
use Rattle.ocpp_types.proofs.time.civil_instant.Goals as goal

pub returns-in-Ok : goal.returns-in-Ok
unfolding civil_nanos
returns-in-Ok c = c.instant_in_utc.ensures ∙ ap civil_instant c.in-Ok.ensures.value
