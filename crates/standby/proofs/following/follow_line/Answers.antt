-- One line, by what it says.
use Rattle.std.proofs.Common.{◌≡◌, ◌∙◌, ◌≢◌, ◌++◌, ◌∷◌, [], ℕ, List, Option, Some, None, MatchOption, refl, sym, subst, ap}
use Rattle.hub_events.specs.declared.event.Event.{Event as HubEvent}
use Rattle.turn_hub.specs.TurnHub.{world, setting, is_clean}
use Rattle.hub.specs.World.{world_run}
use Rattle.standby.specs.Follows.{IsReached, PassesTo, pending_of, waiting_after}
use Rattle.standby.proofs.Laws.{reads_line, reads_none}
use Rattle.standby.proofs.Steps.{goes_on, begins, ends, parts, parts_at_end, after_err, after_mark}
use Rattle.standby.proofs.following.follow_line.Goals as goal

pub returns-in_err-take_all-clause-after : goal.returns-in_err-take_all-clause-after
returns-in_err-take_all-clause-after g c = λ w input followed.
    let bytes = c.in_ok-line.ensures.bytes in
    let next = reads_none _ (g.R.Read.remaining c.read_line.new.reader) c.in_ok-line.line.items bytes (λ text e. c.in_default.ensures text (c.as_slice.ensures.value ∙ e)) in
    after_err _ _ _ _ _ _ _ _ c.from_residual-in_err-take_all.ensures.0
    (λ clean. parts_at_end _ _ _ _ _ _ _ _ _ followed next (c.take_all.ensures.was_clean clean)
    (subst (λ (events : List HubEvent). IsReached (setting g.V.VendorHandler.view c.args.hub.now) (world g.S.Store.view c.args.hub.now) events (world g.S.Store.view c.take_all.new.hub)) c.as_slice-in_default.ensures.value
    (c.in_err-take_all.ensures.fault clean)))

pub returns-in_default-clause-after : goal.returns-in_default-clause-after
returns-in_default-clause-after g c = λ w input followed.
    let next = reads_none _ (g.R.Read.remaining c.read_line.new.reader) c.in_ok-line.line.items c.in_ok-line.ensures.bytes (λ text e. c.in_default.ensures text (c.as_slice.ensures.value ∙ e)) in
    ends _ _ _ _ _ _ _ _ _ _ followed next c.take_all.ensures.was_clean
    (λ clean. c.in_ok-take_all.ensures.world clean ∙ ap (world_run (setting g.V.VendorHandler.view c.args.hub.now) (world g.S.Store.view c.args.hub.now)) c.as_slice-in_default.ensures.value)

pub returns-in_err-take_all-2-clause-after : goal.returns-in_err-take_all-2-clause-after
returns-in_err-take_all-2-clause-after g c = λ w input followed.
    let next = reads_line _ (g.R.Read.remaining c.read_line.new.reader) c.in_ok-line.line.items c.in-Some.text.now c.in_ok-line.ensures.bytes c.in_ok-line.ensures.rest (sym c.as_slice.ensures.value ∙ c.in-Some.ensures) in
    after_err _ _ _ _ _ _ _ _ c.from_residual-in_err-take_all-2.ensures.0
    (λ clean. parts _ _ _ _ _ _ _ _ _ _ _ _ _ c.hosted.ensures c.in_ok-entry.ensures c.in_ok-taken.ensures.taken followed next (c.take_all-2.ensures.was_clean clean)
    (subst (λ (events : List HubEvent). IsReached (setting g.V.VendorHandler.view c.args.hub.now) (world g.S.Store.view c.args.hub.now) events (world g.S.Store.view c.take_all-2.new.hub)) c.as_slice-2.ensures.value
    (c.in_err-take_all-2.ensures.fault clean)))

pub returns-in-Begun-clause-after : goal.returns-in-Begun-clause-after
returns-in-Begun-clause-after g c = λ w input followed.
    let next = reads_line _ (g.R.Read.remaining c.read_line.new.reader) c.in_ok-line.line.items c.in-Some.text.now c.in_ok-line.ensures.bytes c.in_ok-line.ensures.rest (sym c.as_slice.ensures.value ∙ c.in-Some.ensures) in
    let none = subst (λ p. PassesTo p (waiting_after (pending_of c.args.waiting.now) c.in-Some.text.now c.in_ok-entry.entry) (pending_of c.pass.new.self)) c.in-Begun.is c.in_ok-taken.ensures.waits in
    begins _ _ _ _ _ _ _ _ _ _ _ _ _ _ c.hosted.ensures c.in_ok-entry.ensures c.in_ok-taken.ensures.taken none followed next c.take_all-2.ensures.was_clean
    (λ clean. c.in_ok-take_all-2.ensures.world clean ∙ ap (world_run (setting g.V.VendorHandler.view c.args.hub.now) (world g.S.Store.view c.args.hub.now)) c.as_slice-2.ensures.value)

pub returns-clause-after : goal.returns-clause-after
returns-clause-after g c = λ w input followed.
    let next = reads_line _ (g.R.Read.remaining c.read_line.new.reader) c.in_ok-line.line.items c.in-Some.text.now c.in_ok-line.ensures.bytes c.in_ok-line.ensures.rest (sym c.as_slice.ensures.value ∙ c.in-Some.ensures) in
    let some = subst (λ p. PassesTo p (waiting_after (pending_of c.args.waiting.now) c.in-Some.text.now c.in_ok-entry.entry) (pending_of c.pass.new.self)) c.in-On.is c.in_ok-taken.ensures.waits in
    after_mark _ _ _ _ _ _ _ _ c.compare.ensures
    (goes_on _ _ _ _ _ _ _ _ _ _ _ _ _ _ _ c.hosted.ensures c.in_ok-entry.ensures c.in_ok-taken.ensures.taken some followed next c.take_all-2.ensures.was_clean
    (λ clean. c.in_ok-take_all-2.ensures.world clean ∙ ap (world_run (setting g.V.VendorHandler.view c.args.hub.now) (world g.S.Store.view c.args.hub.now)) c.as_slice-2.ensures.value))
