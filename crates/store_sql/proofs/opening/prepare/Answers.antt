use Rattle.std.proofs.Common.{IsTrue, ap, subst}
use Rattle.sqlite.specs.Held.{state}
use Rattle.store_sql.proofs.OursLaws.{accepts_serving}
use Rattle.store_sql.proofs.opening.prepare.Goals as goal

pub returns-clause-serving : goal.returns-clause-serving
returns-clause-serving g c =
    let old = state g.S.Store c.args.conn.now in
    let mid = state g.S.Store c.set_step_limit.new.self in
    let new = state g.S.Store c.prepare_rested.new.conn in
    accepts_serving old mid new c.prepare_rested.result (ap (λ h. (state g.S.Store h).now) c.set_step_limit.ensures) (λ up. subst (λ h. IsTrue (state g.S.Store h).is_open) c.set_step_limit.ensures up)
    c.prepare_rested.ensures.prepares.refused c.prepare_rested.ensures.accepts
