use Rattle.pending_calls.specs.Slots.{slot_at}
use Rattle.plans.proofs.Readiness.{ready_at}
use Rattle.frame_plans.proofs.frames.plan_frame.Goals as goal

pub returns-in-Call-clause-ready : goal.returns-in-Call-clause-ready
returns-in-Call-clause-ready g c = ready_at (λ st. slot_at c.args.at.now.op.now st c.args.slots.now) c.plan_call.result c.plan_call.ensures.ready

pub returns-in-CallResult-clause-ready : goal.returns-in-CallResult-clause-ready
returns-in-CallResult-clause-ready g c = ready_at (λ st. slot_at c.args.at.now.op.now st c.args.slots.now) c.plan_result.result c.plan_result.ensures.ready
