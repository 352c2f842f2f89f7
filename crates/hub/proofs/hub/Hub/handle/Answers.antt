use Rattle.std.proofs.Common.{◌∙◌, ◌++◌, [], ◌∷◌, ap, sym, append-nil, subst}
use Rattle.pending_calls.proofs.OwnSlots.{slots-sorted}
use Rattle.hub.specs.Hub.{world, setting}
use Rattle.hub.specs.View.{view}
use Rattle.hub.specs.WellFormed.{WellFormed, ConnectedAreOnRecord}
use Rattle.hub.specs.World.{Setting, World, outputs_of, world_outputs}
use Rattle.hub.proofs.Isolation.{run_outputs-own, world_run-own}
use Rattle.hub.proofs.Others.{leaves_alone}
use Rattle.hub.proofs.Stations.{have-step}
use Rattle.hub.proofs.hub.Hub.handle.Goals as goal

pub returns-clause-isolated_outputs : goal.returns-clause-isolated_outputs
returns-clause-isolated_outputs g c = λ clean a.
    let st : Setting = setting g.V.VendorHandler.view c.args.self.now in
    let w : World = world g.S.Store.view c.args.self.now in
    let good : WellFormed w = record { rows = g.met.S.Store.well_formed c.args.self.now.book.store (c.in_ok-take.ensures.counted.was_clean clean); slots = slots-sorted c.args.self.now.slots } in
    ap (outputs_of a) (c.in_ok-take.ensures.outs clean ∙ ap (λ outs. outs ++ world_outputs st w c.args.event.now) c.new-outs.ensures.items ∙ sym (append-nil (world_outputs st w c.args.event.now)))
    ∙ run_outputs-own st a w (c.args.event.now ∷ []) good

pub returns-clause-isolated_view : goal.returns-clause-isolated_view
returns-clause-isolated_view g c = λ clean a.
    let st : Setting = setting g.V.VendorHandler.view c.args.self.now in
    let w : World = world g.S.Store.view c.args.self.now in
    let good : WellFormed w = record { rows = g.met.S.Store.well_formed c.args.self.now.book.store (c.in_ok-take.ensures.counted.was_clean clean); slots = slots-sorted c.args.self.now.slots } in
    ap (view a) (c.in_ok-take.ensures.world clean) ∙ world_run-own st a w (c.args.event.now ∷ []) good

pub returns-clause-others : goal.returns-clause-others
returns-clause-others g c = λ clean a.
    let st : Setting = setting g.V.VendorHandler.view c.args.self.now in
    let w : World = world g.S.Store.view c.args.self.now in
    let good : WellFormed w = record { rows = g.met.S.Store.well_formed c.args.self.now.book.store (c.in_ok-take.ensures.counted.was_clean clean); slots = slots-sorted c.args.self.now.slots } in
    leaves_alone st a w c.args.event.now c.take.new.outs.items (world g.S.Store.view c.take.new.self) good
    (c.in_ok-take.ensures.outs clean ∙ ap (λ outs. outs ++ world_outputs st w c.args.event.now) c.new-outs.ensures.items) (c.in_ok-take.ensures.world clean)

pub returns-clause-stations : goal.returns-clause-stations
returns-clause-stations g c = λ clean have.
    let st : Setting = setting g.V.VendorHandler.view c.args.self.now in
    let w : World = world g.S.Store.view c.args.self.now in
    let good : WellFormed w = record { rows = g.met.S.Store.well_formed c.args.self.now.book.store (c.in_ok-take.ensures.counted.was_clean clean); slots = slots-sorted c.args.self.now.slots } in
    subst ConnectedAreOnRecord (sym (c.in_ok-take.ensures.world clean)) (have-step st w c.args.event.now good have)
