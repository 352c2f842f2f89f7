use Rattle.std.proofs.Common.{◌≡◌, IfOk, subst}
use Rattle.hub_rows.specs.Lookups.{lookups_at}
use Rattle.charging.specs.Start.{start_by_key}
use Rattle.charging.proofs.start.on_start.Goals as goal

pub returns-clause-decision : goal.returns-clause-decision
returns-clause-decision g c = λ clean.
    subst (λ k. IfOk c.start_by_key.result (λ d. d ≡ start_by_key c.args.at.now.station.now c.args.request k c.args.at.now.moment (lookups_at c.args.at.now.op.now (g.S.Store.view c.args.store.now).rows)))
    c.in_ok-id.ensures (c.start_by_key.ensures.decision clean)
