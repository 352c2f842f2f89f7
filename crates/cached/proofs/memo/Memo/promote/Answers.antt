use Rattle.std.proofs.Common.{nat_eq, sym, subst}
use Rattle.cached.specs.Answers.{IsRightUnder}
use Rattle.cached.proofs.MemoLaws.{All, promote}
use Rattle.cached.proofs.memo.Memo.promote.Goals as goal

pub returns : goal.returns
returns g c = λ rows are.
    let right = IsRightUnder g.A.Answer.digest g.A.Answer.is_right rows in
    subst (λ a. All right a.entries) (sym c.promote.ensures.entries) (promote right c.args.self.now.answers.entries (nat_eq c.args.digest) are)
