use Rattle.std.proofs.Common.{◌∙◌, ap, sym, arith, List, length, Result, Ok, Err, OnErr}
use Rattle.std.proofs.Math.Seq.{take-length}
use Rattle.hub_events.specs.declared.event.Event.{Event}
use Rattle.hub.specs.Hub.{world, setting}
use Rattle.hub.specs.TwoSystems.{IsAfterSome}
use Rattle.hub.specs.World.{Setting, World, world_run}
use Rattle.hub.proofs.worlds.isolated.Goals as goal

-- what holds anyway holds in case of an error
on_err : {T E : Type 0} (P : Type 0) (r : Result T E) → P → OnErr r P
on_err P (Ok x) holds = tt
on_err P (Err e) holds = holds

pub returns-in_err-of_second-clause-first_fault : goal.returns-in_err-of_second-clause-first_fault
returns-in_err-of_second-clause-first_fault g c = λ clean.
    let st : Setting = setting g.V.VendorHandler.view c.args.first.now in
    let w : World = world g.S.Store.view c.args.first.now in
    let es : List Event = c.args.first_events.now in
    on_err (IsAfterSome st w es (world g.S.Store.view c.outputs_for.new.hub)) c.from_residual-in_err-of_second.result
    (record { taken = length es; within = omega arith; world = c.in_ok-of_first.ensures.world clean ∙ ap (world_run st w) (sym (take-length es)) })
