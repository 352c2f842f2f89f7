use Rattle.std.proofs.Common.{rules}
use Rattle.ws_handshake.proofs.HeadLaws.{by_key}
use Rattle.ws_handshake.proofs.head.judge_version.Goals as goal

pub returns-in-Some : goal.returns-in-Some
returns-in-Some c =
    by_key c.args.route _ c.args.request.now.len _ _ _ (search rules) c.only_value-version.ensures c.only_value.ensures (search rules)

pub returns-in-None : goal.returns-in-None
returns-in-None c =
    by_key c.args.route _ c.args.request.now.len _ _ _ (search rules) c.only_value-version.ensures c.only_value.ensures (search rules)
