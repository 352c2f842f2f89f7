use Rattle.std.proofs.Common.{subst, rules, take}
use Rattle.ws_handshake.specs.Heads.{BytesJudged}
use Rattle.ws_server.proofs.HandshakeLaws.{come_next, of_head}
use Rattle.ws_server.proofs.lobby.next_of.Goals as goal

pub returns-in-Upgraded : goal.returns-in-Upgraded
returns-in-Upgraded g c =
    let bytes = take c.in-Ok.len c.peek.new.buf in
    let judged = subst (BytesJudged c.args.origins.now bytes) c.in-Upgraded.is c.in_ok-judge-in-Ok.ensures.bytes in
    (bytes, come_next _ _ c.in-Ok.len c.peek.new.buf c.in-Ok.ensures.gives (search rules), of_head c.args.origins.now bytes _ judged)
