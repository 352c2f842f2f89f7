-- After a fault some of the first events were taken.
use Rattle.std.proofs.Common.{◌≡◌, ◌∙◌, ◌+◌, OnErr, Result, Ok, Err, take, drop, refl}
use Rattle.std.proofs.lemmas.List.{take-append-drop}
use Rattle.hub.proofs.Runs.{world_goes_on}
use Rattle.hub.specs.World.{Setting, World}
use Rattle.standby.specs.Follows.{IsReached}
use Rattle.turn_hub.specs.TurnHub.{world, setting}
use Rattle.standby.proofs.group.take_all.Goals as goal

any_err : {T E P : Type 0} (r : Result T E) → P → OnErr r P
any_err (Ok x) p = tt
any_err (Err e) p = p

pub returns-in_err-_outs-clause-fault : goal.returns-in_err-_outs-clause-fault
returns-in_err-_outs-clause-fault g c = λ clean.
    let i = c.loop-event.event-index in
    let reached : IsReached (setting g.V.VendorHandler.view c.args.hub.now) (world g.S.Store.view c.args.hub.now) c.args.events.now (world g.S.Store.view c.handle.new.self) = record {
      done = take i c.args.events.now;
      more = drop i c.args.events.now;
      is = c.in_err-_outs.ensures.fault clean ∙ c.loop-event.invariant.world (c.handle.ensures.counted.was_clean clean);
      all_of = take-append-drop i c.args.events.now;
    } in
    any_err c.from_residual.result reached

pub loop-event-preserved : goal.loop-event-preserved
loop-event-preserved g c =
    let st : Setting = setting g.V.VendorHandler.view c.args.hub.now in
    let w : World = world g.S.Store.view c.args.hub.now in
    let at = c.loop-event in
    let inv = c.loop-event.invariant in
    let mine : Setting = setting g.V.VendorHandler.view at.hub in
    record {
      was_clean = λ clean. inv.was_clean (c.handle.ensures.counted.was_clean clean);
      world = λ clean. world_goes_on st w c.args.events.now at.event-index c.event-item.result (world g.S.Store.view c.handle.new.self) mine (world g.S.Store.view at.hub) c.loop-event-test.true c.event-item.is inv.setting
          (inv.world (c.handle.ensures.counted.was_clean clean)) (c.in_ok-_outs.ensures.world clean);
      setting = c.handle.ensures.setting ∙ inv.setting;
    }
