use Rattle.std.proofs.Common.{inr}
use Rattle.replay.proofs.Facts.{on_err}
use Rattle.replay.proofs.Turns.{after_change}
use Rattle.replay.proofs.answers.Answers.event.Goals as goal

pub returns-in_err-push_all-clause-told : goal.returns-in_err-push_all-clause-told
returns-in_err-push_all-clause-told g c = λ now. on_err _ _ (inr (λ was. c.in_ok-outs.ensures.records.kept now was, λ clean. c.in_ok-outs.ensures.world clean))

pub returns-in_err-push_all-clause-records : goal.returns-in_err-push_all-clause-records
returns-in_err-push_all-clause-records g c = after_change _ _ _ _ _ c.from_residual-in_err-push_all.result c.in_ok-outs.ensures.records
