use Rattle.std.proofs.Common.{subst}
use Rattle.std.specs.Prelude.{IfOk}
use Rattle.websocket.specs.Headers.{fields_of}
use Rattle.ws_handshake.specs.Heads.{PathJudged}
use Rattle.std.proofs.Common.{rules}
use Rattle.ws_handshake.proofs.HeadLaws.{by_path}
use Rattle.ws_handshake.proofs.head.judge_request.Goals as goal

pub returns-in-Ok : goal.returns-in-Ok
returns-in-Ok c =
    let request = c.args.request.now in
    let fields = fields_of request.bytes.now request.fields.now in
    by_path request.origins.now c.in-Ok.uri c.args.target.now request.method.now request.minor fields request.len c.judge_path.result (search rules) c.in-Ok.ensures.ok
    (subst (λ path. IfOk c.judge_path.result (PathJudged request.origins.now path request.method.now request.minor fields request.len)) c.path.ensures.value c.judge_path.ensures)
