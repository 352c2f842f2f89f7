use Rattle.std.proofs.Common.{◌∙◌}
use Rattle.cached.proofs.memo.Memo.drop_touched.Goals as goal

pub returns-in-Some-clause-after : goal.returns-in-Some-clause-after
returns-in-Some-clause-after g c = λ rows are e at.
    let was = c.drop_under.ensures.kept rows are e at in
    (was.0, c.in-Some.ensures e.1 (λ same. c.drop_under.ensures.gone e at (was.0 ∙ same)) rows was.1)
