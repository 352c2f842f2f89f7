-- The answer to a request whose records can't be numbered any more, and no change.
use Rattle.std.specs.Prelude.{None}
use Rattle.ocpp_types.specs.declared.error_code.ErrorCode.TheVariants.{InternalError}
use Rattle.registry.specs.declared.decision.Decision.{Decision}
use Rattle.registry.specs.declared.decision.Reply.TheVariants.{Error}

abbrev pub internal_error : Decision
internal_error = record { reply = Error InternalError; edit = None }
