use Rattle.hub_rows.specs.Rows.{Rows}
use Rattle.cached.specs.Answers.{AreRight}
use Rattle.cached.proofs.memo.Memo.drop_found.Given as goal

-- what was right still is
abbrev pub invariant-loop : goal.invariant-loop
invariant-loop g l = (rows : Rows) → AreRight g.A.Answer.digest g.A.Answer.is_right rows l.fn.self → AreRight g.A.Answer.digest g.A.Answer.is_right rows l.self
