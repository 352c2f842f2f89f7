use Rattle.std.proofs.Common.{subst, IfSome}
use Rattle.cached.specs.TagAnswers.{IsApart}
use Rattle.cached.proofs.TagLaws.{kept_right}
use Rattle.cached.proofs.tag_answer.TagAnswerSearched.may_change.Goals as goal

pub returns-in-Some : goal.returns-in-Some
returns-in-Some c = λ apart rows right.
    let change = c.args.change.now in
    let answer = c.args.self.now in
    kept_right change.op.now change.edit.now rows answer (subst (λ o. IfSome o (λ key. IsApart key answer)) c.in-Some.ensures (c.depends_on.ensures apart)) right
