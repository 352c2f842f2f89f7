use Rattle.std.proofs.Common.{◌++◌, map, sym, ap, ◌∙◌, append-nil}
use Rattle.hub_events.specs.declared.out.Outcome.TheVariants.{Disconnected}
use Rattle.hub.specs.Effects.{done}
use Rattle.hub.proofs.call_outputs.push_ended.Goals as goal

pub returns-clause-items : goal.returns-clause-items
returns-clause-items c = sym (append-nil c.loop-call.outs.items) ∙ ap (λ xs. c.loop-call.outs.items ++ map (done Disconnected) xs) (sym c.in_default.ensures.end) ∙ c.loop-call.invariant.all
