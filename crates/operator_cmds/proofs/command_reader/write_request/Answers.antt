use Rattle.operator_cmds.proofs.NoFloats.{command_no_float}
use Rattle.operator_cmds.proofs.command_reader.write_request.Goals as goal

pub returns-clause-no_float : goal.returns-clause-no_float
returns-clause-no_float c = command_no_float c.args.command.now _ c.in_ok-request.ensures
