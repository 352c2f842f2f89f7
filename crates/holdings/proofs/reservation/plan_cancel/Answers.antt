use Rattle.std.proofs.Common.{rules}
use Rattle.holdings.proofs.reservation.plan_cancel.Goals as goal

pub returns-then-has_current-clause-refusal : goal.returns-then-has_current-clause-refusal
returns-then-has_current-clause-refusal g c = λ clean. let found = c.in_ok-expiry.ensures.found clean in search rules

pub returns-else-has_current-clause-refusal : goal.returns-else-has_current-clause-refusal
returns-else-has_current-clause-refusal g c = λ clean. let found = c.in_ok-expiry.ensures.found clean in search rules
