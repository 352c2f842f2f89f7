use Rattle.std.proofs.Common.{◌≡◌, ℕ, List, ◌<◌, length, slice_index_or, false, subst}
use Rattle.std.specs.Option.{IfSome}
use Rattle.hub_events.specs.declared.event.Event.{Event}
use Rattle.hub_events.specs.declared.fault.Fault.TheVariants as fault
use Rattle.hub.specs.Hub.{setting, is_taken}
use Rattle.hub.specs.World.{Setting}
use Rattle.hub.proofs.worlds.outputs_for.Goals as goal

pub returns-in-Some-clause-not_hosted : goal.returns-in-Some-clause-not_hosted
returns-in-Some-clause-not_hosted g c = λ is.
    let st : Setting = setting g.V.VendorHandler.view c.args.hub.now in
    let es : List Event = c.args.events.now in
    let at : ℕ = c.run-outs.result.1 in
    record {
      place = at;
      within = subst (λ o. IfSome o (λ f. at < length es)) c.in-Some.is c.run-outs.ensures.fault;
      not_taken = subst (λ o. IfSome o (λ f. f ≡ fault.NoSuchOperator → (e : Event) → is_taken st (slice_index_or es at e) ≡ false)) c.in-Some.is c.run-outs.ensures.not_hosted is;
    }
