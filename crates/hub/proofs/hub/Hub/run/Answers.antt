use Rattle.std.proofs.Common.{◌≡◌, ◌∙◌, ◌+◌, inl, inr, refl, true, take, ap, sym, subst, arith}
use Rattle.std.proofs.lemmas.List.Elements.{AllWithin-more, at_read}
use Rattle.pending_calls.proofs.OwnSlots.{slots-sorted}
use Rattle.hub_rows.proofs.OnRecord.{record_as}
use Rattle.hub.specs.Hub.{hub_view, world, setting, is_taken}
use Rattle.hub.specs.View.{view}
use Rattle.hub.specs.WellFormed.{WellFormed, ConnectedAreOnRecord}
use Rattle.hub.specs.World.{Setting, World, outputs_of, run_outputs, world_run, world_step}
use Rattle.hub.proofs.Isolation.{run_outputs-own, world_run-own}
use Rattle.hub.proofs.Runs.{outputs_go_on, world_goes_on}
use Rattle.hub.proofs.Stations.{have-run}
use Rattle.hub.proofs.hub.Hub.run.Goals as goal

pub returns-in-Err-clause-isolated_outputs : goal.returns-in-Err-clause-isolated_outputs
returns-in-Err-clause-isolated_outputs g c = λ clean a.
    let st : Setting = setting g.V.VendorHandler.view c.args.self.now in
    let w : World = world g.S.Store.view c.args.self.now in
    let inv = c.loop-event.invariant in
    let before = c.in-Err.ensures.counted.was_clean clean in
    let good : WellFormed w = record { rows = g.met.S.Store.well_formed c.args.self.now.book.store (inv.was_clean before); slots = slots-sorted c.args.self.now.slots } in
    ap (outputs_of a) (c.in-Err.ensures.err_outs ∙ inv.outputs before ∙ ap (λ n. run_outputs st w (take n c.args.events.now)) (sym inv.at))
    ∙ run_outputs-own st a w (take c.loop-event.taken c.args.events.now) good

pub returns-in-Err-clause-isolated_view : goal.returns-in-Err-clause-isolated_view
returns-in-Err-clause-isolated_view g c = λ clean a.
    let st : Setting = setting g.V.VendorHandler.view c.args.self.now in
    let w : World = world g.S.Store.view c.args.self.now in
    let inv = c.loop-event.invariant in
    let before = c.in-Err.ensures.counted.was_clean clean in
    let good : WellFormed w = record { rows = g.met.S.Store.well_formed c.args.self.now.book.store (inv.was_clean before); slots = slots-sorted c.args.self.now.slots } in
    ap (view a) (c.in-Err.ensures.err_world clean ∙ inv.world before ∙ ap (λ n. world_run st w (take n c.args.events.now)) (sym inv.at))
    ∙ world_run-own st a w (take c.loop-event.taken c.args.events.now) good

pub returns-clause-isolated_outputs : goal.returns-clause-isolated_outputs
returns-clause-isolated_outputs g c = λ clean a.
    let st : Setting = setting g.V.VendorHandler.view c.args.self.now in
    let w : World = world g.S.Store.view c.args.self.now in
    let inv = c.loop-event.invariant in
    let good : WellFormed w = record { rows = g.met.S.Store.well_formed c.args.self.now.book.store (inv.was_clean clean); slots = slots-sorted c.args.self.now.slots } in
    ap (outputs_of a) (inv.outputs clean ∙ ap (λ n. run_outputs st w (take n c.args.events.now)) (sym inv.at))
    ∙ run_outputs-own st a w (take c.loop-event.taken c.args.events.now) good

pub returns-clause-isolated_view : goal.returns-clause-isolated_view
returns-clause-isolated_view g c = λ clean a.
    let st : Setting = setting g.V.VendorHandler.view c.args.self.now in
    let w : World = world g.S.Store.view c.args.self.now in
    let inv = c.loop-event.invariant in
    let good : WellFormed w = record { rows = g.met.S.Store.well_formed c.args.self.now.book.store (inv.was_clean clean); slots = slots-sorted c.args.self.now.slots } in
    ap (view a) (inv.world clean ∙ ap (λ n. world_run st w (take n c.args.events.now)) (sym inv.at))
    ∙ world_run-own st a w (take c.loop-event.taken c.args.events.now) good

pub loop-event-preserved : goal.loop-event-preserved
loop-event-preserved g c =
    let st : Setting = setting g.V.VendorHandler.view c.args.self.now in
    let w : World = world g.S.Store.view c.args.self.now in
    let at = c.loop-event in
    let inv = c.loop-event.invariant in
    let i = c.loop-event.event-index in
    let es = c.args.events.now in
    let mine : Setting = setting g.V.VendorHandler.view at.self in
    record {
      at = ap (λ n. n + 1) inv.at;
      hosted = AllWithin-more (λ e. is_taken st e ≡ true) es 0 i inv.hosted
          (at_read es (λ e. is_taken st e ≡ true) i c.event-item.result c.loop-event-test.true c.event-item.is
          (ap (λ s. is_taken s c.event-item.result) (sym inv.setting) ∙ c.in-Ok.ensures.taken));
      was_clean = λ clean. inv.was_clean (c.in-Ok.ensures.counted.was_clean clean);
      outputs = λ clean. let before = c.in-Ok.ensures.counted.was_clean clean in
          outputs_go_on st w es i c.event-item.result at.outs.items c.take.new.outs.items mine (world g.S.Store.view at.self) c.loop-event-test.true c.event-item.is inv.setting (inv.world before) (inv.outputs before) (c.in-Ok.ensures.outs clean);
      world = λ clean. let before = c.in-Ok.ensures.counted.was_clean clean in
          world_goes_on st w es i c.event-item.result (world g.S.Store.view c.take.new.self) mine (world g.S.Store.view at.self) c.loop-event-test.true c.event-item.is inv.setting (inv.world before) (c.in-Ok.ensures.world clean);
      setting = c.in-Ok.ensures.setting ∙ inv.setting;
      kept = λ kept. c.in-Ok.ensures.records.kept refl (inv.kept kept);
      count = omega (arith, c.in-Ok.ensures.counted.count);
    }

pub returns-in-Err-clause-setting : goal.returns-in-Err-clause-setting
returns-in-Err-clause-setting g c = c.in-Err.ensures.setting ∙ c.loop-event.invariant.setting

pub returns-in-Err-clause-stations : goal.returns-in-Err-clause-stations
returns-in-Err-clause-stations g c = λ clean have.
    let st : Setting = setting g.V.VendorHandler.view c.args.self.now in
    let w : World = world g.S.Store.view c.args.self.now in
    let inv = c.loop-event.invariant in
    let before = c.in-Err.ensures.counted.was_clean clean in
    let good : WellFormed w = record { rows = g.met.S.Store.well_formed c.args.self.now.book.store (inv.was_clean before); slots = slots-sorted c.args.self.now.slots } in
    subst ConnectedAreOnRecord (sym (c.in-Err.ensures.err_world clean ∙ c.loop-event.invariant.world before)) (have-run st w (take c.loop-event.event-index c.args.events.now) good have)

pub returns-clause-stations : goal.returns-clause-stations
returns-clause-stations g c = λ clean have.
    let st : Setting = setting g.V.VendorHandler.view c.args.self.now in
    let w : World = world g.S.Store.view c.args.self.now in
    let inv = c.loop-event.invariant in
    let good : WellFormed w = record { rows = g.met.S.Store.well_formed c.args.self.now.book.store (inv.was_clean clean); slots = slots-sorted c.args.self.now.slots } in
    subst ConnectedAreOnRecord (sym (c.loop-event.invariant.world clean)) (have-run st w (take c.loop-event.event-index c.args.events.now) good have)

-- a stop leaves the rows after the events taken, or after those and the one in progress
pub returns-in-Err-clause-stopped : goal.returns-in-Err-clause-stopped
returns-in-Err-clause-stopped g c = λ kept r found.
    let st : Setting = setting g.V.VendorHandler.view c.args.self.now in
    let w : World = world g.S.Store.view c.args.self.now in
    let at = c.loop-event in
    let inv = c.loop-event.invariant in
    let i = c.loop-event.event-index in
    let es = c.args.events.now in
    let mine : Setting = setting g.V.VendorHandler.view at.self in
    let taken = (world_run st w (take i es)).rows in
    let on = record_as (hub_view g.S.Store.view at.self) (hub_view g.S.Store.view at.self).rows taken (λ clean. ap (λ v. v.rows) (inv.world clean)) (inv.kept kept) in
    elim (c.in-Err.ensures.records.stopped refl taken on r found).1 [
      | inl before ↦ inl (before ∙ ap (λ n. (world_run st w (take n es)).rows) (sym inv.at))
      | inr after ↦
          let now : world g.S.Store.view at.self ≡ world_run st w (take i es) = inv.world after.0 in
          inr (
            refl,
            after.1
                ∙ ap (λ v. v.rows) (world_goes_on st w es i c.event-item.result (world_step mine (world g.S.Store.view at.self) c.event-item.result) mine (world g.S.Store.view at.self) c.loop-event-test.true c.event-item.is inv.setting now refl)
                ∙ ap (λ n. (world_run st w (take (n + 1) es)).rows) (sym inv.at),
          )
    ]

pub returns-clause-stopped : goal.returns-clause-stopped
returns-clause-stopped g c = λ kept r found.
    let st : Setting = setting g.V.VendorHandler.view c.args.self.now in
    let w : World = world g.S.Store.view c.args.self.now in
    let inv = c.loop-event.invariant in
    let es = c.args.events.now in
    let one = (inv.kept kept).alone r found in
    inl (one.1 ∙ ap (λ v. v.rows) (inv.world one.0) ∙ ap (λ n. (world_run st w (take n es)).rows) (sym inv.at))
