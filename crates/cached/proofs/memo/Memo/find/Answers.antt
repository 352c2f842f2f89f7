use Rattle.std.proofs.Common.{nat_eq}
use Rattle.cached.proofs.MemoLaws.{found_if}
use Rattle.cached.proofs.memo.Memo.find.Goals as goal

pub returns : goal.returns
returns g c = λ rows are. found_if g.A.Answer.digest (g.A.Answer.is_right rows) (λ answer. answer.now) c.args.self.now.answers.entries (nat_eq c.args.digest) c.peek.result are c.peek.ensures
