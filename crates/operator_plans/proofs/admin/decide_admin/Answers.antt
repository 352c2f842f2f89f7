use Rattle.std.proofs.Common.{◌≡◌, IfOk, subst, subst₂, sym}
use Rattle.hub_rows.specs.Lookups.{Lookups, lookups_at}
use Rattle.hub_rows.specs.Operators.{is_hosted}
use Rattle.registry.specs.PolicySet.{policy_rule}
use Rattle.operator_plans.specs.Requests.{admin_rule}
use Rattle.operator_plans.proofs.admin.decide_admin.Goals as goal

pub returns-in-StationPolicy-clause-decision : goal.returns-in-StationPolicy-clause-decision
returns-in-StationPolicy-clause-decision g c =
    let rows = (g.S.Store.view c.args.store.now).rows in
    let asked = c.in-StationPolicy in
    λ clean. subst (λ a. IfOk c.plan_policy.result (λ p. p ≡ admin_rule (is_hosted c.args.hosted.now) a c.args.moment (lookups_at c.args.op.now rows))) (sym asked.is)
    (subst₂ (λ o st. IfOk c.plan_policy.result (λ p. p ≡ policy_rule st asked.policy asked.interval (lookups_at o rows))) c.as_str-name.ensures c.as_str-in-StationPolicy.ensures (c.plan_policy.ensures.plan clean))

pub returns-in-TransactionClose-clause-decision : goal.returns-in-TransactionClose-clause-decision
returns-in-TransactionClose-clause-decision g c =
    let l : Lookups = lookups_at c.args.op.now (g.S.Store.view c.args.store.now).rows in
    λ clean. subst (λ a. IfOk c.plan_close.result (λ p. p ≡ admin_rule (is_hosted c.args.hosted.now) a c.args.moment l)) (sym c.in-TransactionClose.is) (c.plan_close.ensures.plan clean)
