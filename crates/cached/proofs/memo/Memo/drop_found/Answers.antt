use Rattle.std.proofs.Common.{nat_eq, sym, subst}
use Rattle.cached.specs.Answers.{IsRightUnder}
use Rattle.cached.proofs.MemoLaws.{All, remove}
use Rattle.cached.proofs.memo.Memo.drop_found.Goals as goal

pub loop-preserved : goal.loop-preserved
loop-preserved g c = λ rows are.
    let right = IsRightUnder g.A.Answer.digest g.A.Answer.is_right rows in
    subst (λ a. All right a.entries) (sym c.pop_entry-dropped.ensures.entries) (remove right c.loop.self.answers.entries (nat_eq c.in-Some.digest) (c.loop.invariant rows are))
