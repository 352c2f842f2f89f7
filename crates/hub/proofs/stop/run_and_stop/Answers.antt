use Rattle.std.proofs.Common.{IfOk, Result, Ok, Err, subst}
use Rattle.hub.proofs.stop.run_and_stop.Goals as goal

-- what follows of a value follows of an answer
each : {V E : Type 0} (P Q : V → Type 0) (r : Result V E) → ((v : V) → P v → Q v) → IfOk r P → IfOk r Q
each P Q (Ok v) then said = then v said
each P Q (Err e) then said = said

pub returns : goal.returns
returns g c = λ kept.
    each (λ s. g.S.Reopens.is_open s → (g.S.Store.view c.into_store.result).may_find (g.S.Store.view s).rows) _ c.stop_and_reopen.result
    (λ s found up. c.run-taken.ensures.stopped kept (g.S.Store.view s).rows (subst (λ st. (g.S.Store.view st).may_find (g.S.Store.view s).rows) c.into_store.ensures (found up))) c.stop_and_reopen.ensures.found
