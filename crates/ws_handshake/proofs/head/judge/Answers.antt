use Rattle.std.proofs.Common.{rules}
use Rattle.ws_handshake.proofs.HeadLaws.{each_head, some_head}
use Rattle.ws_handshake.proofs.head.judge.Goals as goal

pub returns-in-Ok-Complete-clause-judged : goal.returns-in-Ok-Complete-clause-judged
returns-in-Ok-Complete-clause-judged c =
    each_head c.args.origins.now c.args.bytes.now c.parse_request.new.headers c.in-Ok-Complete.found c.in-Ok-Complete.field-0 c.judge_request.result c.in-Ok-Complete.field-0-is c.in-Ok-Complete.ensures.found (search rules)

pub returns-in-Ok-Complete-clause-bytes : goal.returns-in-Ok-Complete-clause-bytes
returns-in-Ok-Complete-clause-bytes c =
    some_head c.args.origins.now c.args.bytes.now c.parse_request.new.headers c.in-Ok-Complete.found c.in-Ok-Complete.field-0 c.judge_request.result c.in-Ok-Complete.field-0-is c.in-Ok-Complete.ensures.complete (search rules)
