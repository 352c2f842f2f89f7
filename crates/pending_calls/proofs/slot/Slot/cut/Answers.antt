use Rattle.std.proofs.Common.{◌≤◌, length, subst, sym, ap, ◌∙◌}
use Rattle.pending_calls.specs.Slot.{most_calls, ended_calls}
use Rattle.pending_calls.specs.Shown.{all_calls}
use Rattle.pending_calls.proofs.Named.{named_calls, few_calls}
use Rattle.pending_calls.proofs.slot.Slot.cut.Goals as goal

pub returns-clause-ended : goal.returns-clause-ended
returns-clause-ended g c =
    c.of.ensures
    ∙ (λ i. all_calls (c.take-in_flight.ensures.value i) (c.replace-waiting.ensures.value i).items)
    ∙ named_calls (c.self.view_is 0) c.self.inside.in_flight c.self.inside.waiting.items c.self.invariant.in_flight_named c.self.invariant.waiting_named
    ∙ ap ended_calls c.self.view_is

pub returns-clause-few : goal.returns-clause-few
returns-clause-few g c =
    subst (λ calls. length calls ≤ most_calls) (sym (returns-clause-ended g c)) (subst (λ s. length (ended_calls s) ≤ most_calls) c.self.view_is (few_calls (c.self.view_is 0) c.self.invariant.slot))
