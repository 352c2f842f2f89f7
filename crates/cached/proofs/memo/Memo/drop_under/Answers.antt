use Rattle.std.proofs.Common.{◌≢◌, nat_eq, sym, subst}
use Rattle.cached.specs.Answers.{IsRightUnder}
use Rattle.cached.proofs.MemoLaws.{All, remove, removed}
use Rattle.cached.proofs.memo.Memo.drop_under.Goals as goal

pub returns-then-len-gt0-clause-kept : goal.returns-then-len-gt0-clause-kept
returns-then-len-gt0-clause-kept g c = λ rows are.
    let right = IsRightUnder g.A.Answer.digest g.A.Answer.is_right rows in
    subst (λ a. All right a.entries) (sym c.pop_entry-dropped.ensures.entries) (remove right c.args.self.now.answers.entries (nat_eq c.args.digest) are)

pub returns-then-len-gt0-clause-gone : goal.returns-then-len-gt0-clause-gone
returns-then-len-gt0-clause-gone g c =
    subst (λ a. All (λ e. e.0 ≢ c.args.digest) a.entries) (sym c.pop_entry-dropped.ensures.entries) (removed c.args.self.now.answers.entries c.args.digest c.len.ensures.valid.0)
