use Rattle.std.proofs.Common.{arith}
use Rattle.std.proofs.lemmas.Str.Pattern.{strip_prefix_char}
use Rattle.clients.proofs.SignLaws.{sign_cut}
use Rattle.clients.proofs.reply.after_sign.Goals as goal

pub returns : goal.returns
returns c = sign_cut c.args.text.now c.strip_prefix.result (strip_prefix_char 35 c.args.text.now c.strip_prefix.result c.strip_prefix.ensures.cases (omega arith))
