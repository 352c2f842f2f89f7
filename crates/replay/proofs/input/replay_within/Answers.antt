use Rattle.std.proofs.Common.{◌≡◌, [], refl}
use Rattle.hub.specs.Hub.{world, setting}
use Rattle.hub.specs.World.{Setting, World}
use Rattle.replay.specs.Lines.{unread}
use Rattle.replay.proofs.Progress.{all_to_come, appends_all, appends_front}
use Rattle.replay.proofs.Told.{told_all, told_last}
use Rattle.replay.proofs.input.replay_within.Goals as goal

pub returns-in-Ok-clause-ok : goal.returns-in-Ok-clause-ok
returns-in-Ok-clause-ok g c = λ clean.
    let st : Setting = setting g.V.VendorHandler.view c.args.hub.now in
    let w : World = world g.S.Store.view c.args.hub.now in
    let new = c.new-lines.ensures in
    let none : unread c.new-lines.result ≡ [] = rw (new.start.0, new.start.1) refl in
    all_to_come _ _ (appends_all _ _ c.new.result.items st w c.new.ensures.items) _ _ _ new.ended none (c.in-Ok.ensures.text clean)

pub returns-clause-fault : goal.returns-clause-fault
returns-clause-fault g c = λ clean.
    let st : Setting = setting g.V.VendorHandler.view c.args.hub.now in
    let w : World = world g.S.Store.view c.args.hub.now in
    let new = c.new-lines.ensures in
    let none : unread c.new-lines.result ≡ [] = rw (new.start.0, new.start.1) refl in
    all_to_come _ _ (appends_front _ _ _ c.new.result.items _ st w c.new.ensures.items c.write_last.ensures.front) _ _ _ new.ended none (c.in-Err.ensures.fault_text clean)

pub returns-in-Ok-clause-stopped : goal.returns-in-Ok-clause-stopped
returns-in-Ok-clause-stopped g c = λ kept r found.
    let new = c.new-lines.ensures in
    let none : unread c.new-lines.result ≡ [] = rw (new.start.0, new.start.1) refl in
    all_to_come _ _ (λ input reached. reached) _ _ _ new.ended none (c.pass.ensures.stopped kept r found)

pub returns-clause-stopped : goal.returns-clause-stopped
returns-clause-stopped g c = λ kept r found.
    let new = c.new-lines.ensures in
    let none : unread c.new-lines.result ≡ [] = rw (new.start.0, new.start.1) refl in
    all_to_come _ _ (λ input reached. reached) _ _ _ new.ended none (c.pass.ensures.stopped kept r found)

pub returns-in-Ok-clause-recorded : goal.returns-in-Ok-clause-recorded
returns-in-Ok-clause-recorded g c = λ kept r found.
    let new = c.new-lines.ensures in
    let none : unread c.new-lines.result ≡ [] = rw (new.start.0, new.start.1) refl in
    all_to_come _ _ (told_all _ _ _ _ c.new.result.items _ r c.new.ensures.items) _ _ _ new.ended none (c.pass.ensures.recorded kept r found)

pub returns-clause-recorded : goal.returns-clause-recorded
returns-clause-recorded g c = λ kept r found.
    let new = c.new-lines.ensures in
    let none : unread c.new-lines.result ≡ [] = rw (new.start.0, new.start.1) refl in
    all_to_come _ _ (told_last _ _ _ _ _ c.new.result.items _ r c.new.ensures.items c.write_last.ensures.pending) _ _ _ new.ended none (c.pass.ensures.recorded kept r found)
