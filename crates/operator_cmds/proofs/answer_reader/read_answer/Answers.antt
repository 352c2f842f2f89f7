use Rattle.json_data.specs.View.{view}
use Rattle.operator_cmds.proofs.NoFloats.{answer_no_float}
use Rattle.operator_cmds.proofs.answer_reader.read_answer.Goals as goal

pub returns-clause-no_float : goal.returns-clause-no_float
returns-clause-no_float c = answer_no_float c.args.command.now (view c.args.payload.now) _ c.in_ok-read.ensures
