use Rattle.std.proofs.Common.{arith, refl, ◌∙◌, ap}
use Rattle.replay.proofs.Facts.{on_err}
use Rattle.replay.proofs.Parts.{reads_none, reads_both}
use Rattle.replay.proofs.Progress.{progress_none, progress_line, progress_settle, progress_end_world, progress_end_text, progress_stop_world, progress_stop_settled, progress_stop_text, progress_line_world, progress_line_text, falls_kept, settled_text}
use Rattle.replay.proofs.Told.{told_kept, told_line, told_settle, told_found, told_stop, told_in_line, line_told, tells_kept}
use Rattle.replay.proofs.Turns.{waits_none, waits_line, waits_settle, waits_end, waits_found, waits_stop, waits_in_line}
use Rattle.replay.proofs.input.pass.Goals as goal
use Rattle.hub.specs.Hub.{hub_view}
use Rattle.hub.specs.World.{World}

pub loop-answers-init : goal.loop-answers-init
loop-answers-init g c = record {
  within = c.requires.within;
  number = omega arith;
  was_clean = λ clean. clean;
  count = omega arith;
  waits = λ kept. waits_none _ _ _ _ _ refl kept;
  told = λ kept. told_kept _ _ _ _ _ _ _ _ _ _ _ _ _ (progress_none _ _ _ _ _ _ _) refl kept;
  same = refl;
  end = λ e. absurd (let open' = c.requires.unended in cc);
  reads = reads_none _ _;
  progress = progress_none _ _ _ _ _ _ _;
}

pub returns-in_err-next-clause-fault_world : goal.returns-in_err-next-clause-fault_world
returns-in_err-next-clause-fault_world g c = λ clean. on_err _ _ (progress_stop_world _ _ _ _ _ _ _ _ _ _ _ _ _ c.loop-answers.invariant.progress (λ x. x) clean)

pub returns-in_err-next-clause-fault_text : goal.returns-in_err-next-clause-fault_text
returns-in_err-next-clause-fault_text g c = λ clean. on_err _ _
    (progress_stop_text _ _ _ _ _ _ _ _ _ _ _ _ _ _ _ c.loop-answers.invariant.progress (λ x. x) clean (λ start more whole s. record { ahead = more; stands = s }))

pub returns-in_err-next-clause-stopped : goal.returns-in_err-next-clause-stopped
returns-in_err-next-clause-stopped g c = λ kept r found. waits_found _ _ _ _ _ r (c.loop-answers.invariant.waits kept) found

pub returns-in_err-line-clause-fault_world : goal.returns-in_err-line-clause-fault_world
returns-in_err-line-clause-fault_world g c = λ clean. on_err _ _
    (progress_line_world _ _ _ _ _ _ _ _ _ _ _ _ _ _ _ _ _ c.loop-answers.invariant.progress (c.in_ok-next.ensures.line c.if-branch.true) c.in_err-line.ensures.counted.was_clean clean c.loop-answers.invariant.same
    (λ line held. c.in_err-line.ensures.fault_world clean line (c.held.ensures line held)))

pub returns-in_err-line-clause-fault_text : goal.returns-in_err-line-clause-fault_text
returns-in_err-line-clause-fault_text g c = λ clean. on_err _ _
    (progress_line_text _ _ _ _ _ _ _ _ _ _ _ _ _ _ _ _ _ c.loop-answers.invariant.progress (c.in_ok-next.ensures.line c.if-branch.true) c.in_err-line.ensures.counted.was_clean clean c.loop-answers.invariant.same
    (λ line held. c.in_err-line.ensures.fault_text clean line (c.held.ensures line held)))

pub returns-in_err-line-clause-stopped : goal.returns-in_err-line-clause-stopped
returns-in_err-line-clause-stopped g c = λ kept r found.
    waits_in_line _ _ _ _ _ _ _ _ _ _ _ _ _ _ _ (hub_view g.S.Store.view c.loop-answers.hub) _ r _ c.loop-answers.invariant.progress (c.in_ok-next.ensures.line c.if-branch.true) c.loop-answers.invariant.same refl
    (c.loop-answers.invariant.waits kept) (λ line held. c.in_err-line.ensures.records line (c.held.ensures line held)) found

pub loop-answers-preserved : goal.loop-answers-preserved
loop-answers-preserved g c =
    let inv = c.loop-answers.invariant in
    let next = c.in_ok-next.ensures in
    let line = c.in_ok-line.ensures in
    let due = c.in_ok-settle_if_due.ensures in
    let answered = progress_line _ _ _ _ _ _ _ _ _ _ _ _ _ _ _ _ _ _ _ inv.progress (next.line c.if-branch.true) line.counted.was_clean inv.same line.number
    (λ clean l held. line.world clean l (c.held.ensures l held)) (λ clean l held. line.text clean l (c.held.ensures l held)) in
    let settled = progress_settle _ _ _ _ _ _ _ _ _ _ _ _ _ _ _ _ _ answered due.counted.was_clean due.world due.number due.ok in
    record {
      within = next.within;
      number = omega (arith, due.number, line.number, next.fewer c.if-branch.true, inv.number);
      was_clean = λ clean. inv.was_clean (line.counted.was_clean (due.counted.was_clean clean));
      count = omega (arith, inv.count, line.counted.count, due.counted.count);
      waits = λ kept. waits_settle (hub_view g.S.Store.view) _ _ _ _ _ _ _ _ _ _ _ _ _ _ _ settled refl due.same due.stays
          (waits_line _ _ _ _ _ _ _ _ _ _ _ _ _ _ answered refl line.kept line.waits (inv.waits kept));
      told = λ kept. told_settle (hub_view g.S.Store.view) _ _ _ _ _ _ _ _ _ _ _ _ _ _ _ _ settled refl due.same due.stays
          (waits_line _ _ _ _ _ _ _ _ _ _ _ _ _ _ answered refl line.kept line.waits (inv.waits kept))
          (told_line _ _ _ _ _ _ _ _ _ _ _ _ _ _ _ answered refl (λ now. line.kept now ((inv.waits kept).kept now)) line.waits (inv.told kept));
      same = due.setting ∙ line.setting ∙ inv.same;
      end = next.end (next.unended c.if-branch.true);
      reads = reads_both _ _ _ _ _ _ inv.reads next.count;
      progress = settled;
    }

pub returns-in_err-settle_if_due-clause-fault_world : goal.returns-in_err-settle_if_due-clause-fault_world
returns-in_err-settle_if_due-clause-fault_world g c = λ clean.
    let inv = c.loop-answers.invariant in
    let line = c.in_ok-line.ensures in
    let due = c.in_err-settle_if_due.ensures in
    on_err _ _ (progress_stop_settled _ _ _ _ _ _ _ _ _ _ _ _ _ _
    (progress_line _ _ _ _ _ _ _ _ _ _ _ _ _ _ _ _ _ _ _ inv.progress (c.in_ok-next.ensures.line c.if-branch.true) line.counted.was_clean inv.same line.number
    (λ clean' l held. line.world clean' l (c.held.ensures l held)) (λ clean' l held. line.text clean' l (c.held.ensures l held)))
    due.counted.was_clean clean (due.world clean))

pub returns-in_err-settle_if_due-clause-fault_text : goal.returns-in_err-settle_if_due-clause-fault_text
returns-in_err-settle_if_due-clause-fault_text g c = λ clean.
    let inv = c.loop-answers.invariant in
    let line = c.in_ok-line.ensures in
    let due = c.in_err-settle_if_due.ensures in
    on_err _ _ (progress_stop_text _ _ _ _ _ _ _ _ _ _ _ _ _ _ _
    (progress_line _ _ _ _ _ _ _ _ _ _ _ _ _ _ _ _ _ _ _ inv.progress (c.in_ok-next.ensures.line c.if-branch.true) line.counted.was_clean inv.same line.number
    (λ clean' l held. line.world clean' l (c.held.ensures l held)) (λ clean' l held. line.text clean' l (c.held.ensures l held)))
    due.counted.was_clean clean due.fault)

pub returns-in_err-settle_if_due-clause-stopped : goal.returns-in_err-settle_if_due-clause-stopped
returns-in_err-settle_if_due-clause-stopped g c = λ kept r found.
    let inv = c.loop-answers.invariant in
    let line = c.in_ok-line.ensures in
    let answered = progress_line _ _ _ _ _ _ _ _ _ _ _ _ _ _ _ _ _ _ _ inv.progress (c.in_ok-next.ensures.line c.if-branch.true) line.counted.was_clean inv.same line.number
    (λ clean' l held. line.world clean' l (c.held.ensures l held)) (λ clean' l held. line.text clean' l (c.held.ensures l held)) in
    waits_stop _ _ _ _ _ _ _ _ _ _ _ _ (hub_view g.S.Store.view c.line.new.hub) (hub_view g.S.Store.view c.settle_if_due.new.hub) r answered c.in_err-settle_if_due.ensures.stopped
    (waits_line _ _ _ _ _ _ _ _ _ _ _ _ (hub_view g.S.Store.view c.loop-answers.hub) _ answered refl line.kept line.waits (inv.waits kept)) found

pub returns-in_err-settle-clause-fault_world : goal.returns-in_err-settle-clause-fault_world
returns-in_err-settle-clause-fault_world g c = λ clean.
    let settle = c.in_err-settle.ensures in
    on_err _ _ (progress_stop_settled _ _ _ _ _ _ _ _ _ _ _ _ _ _ c.loop-answers.invariant.progress settle.counted.was_clean clean (settle.world clean))

pub returns-in_err-settle-clause-fault_text : goal.returns-in_err-settle-clause-fault_text
returns-in_err-settle-clause-fault_text g c = λ clean.
    let settle = c.in_err-settle.ensures in
    on_err _ _ (progress_stop_text _ _ _ _ _ _ _ _ _ _ _ _ _ _ _ c.loop-answers.invariant.progress settle.counted.was_clean clean settle.fault)

pub returns-in_err-settle-clause-stopped : goal.returns-in_err-settle-clause-stopped
returns-in_err-settle-clause-stopped g c = λ kept r found.
    waits_stop _ _ _ _ _ _ _ _ _ _ _ _ (hub_view g.S.Store.view c.loop-answers.hub) (hub_view g.S.Store.view c.settle.new.hub) r c.loop-answers.invariant.progress c.in_err-settle.ensures.stopped (c.loop-answers.invariant.waits kept) found

pub returns-in-Ok-clause-world : goal.returns-in-Ok-clause-world
returns-in-Ok-clause-world g c = λ clean.
    let settle = c.in_ok-settle.ensures in
    progress_end_world _ _ _ _ _ _ _ _ _ _ _ _ _ c.loop-answers.invariant.progress (c.in_ok-next.ensures.done c.if-branch.false).1 (settle.counted.was_clean clean) (settle.world clean)

pub returns-in-Ok-clause-text : goal.returns-in-Ok-clause-text
returns-in-Ok-clause-text g c = λ clean.
    let settle = c.in_ok-settle.ensures in
    progress_end_text _ _ _ _ _ _ _ _ _ _ _ _ _ _ c.loop-answers.invariant.progress (c.in_ok-next.ensures.done c.if-branch.false).1 (settle.counted.was_clean clean) settle.ok c.flush.ensures.bytes

pub returns-in-Ok-clause-stopped : goal.returns-in-Ok-clause-stopped
returns-in-Ok-clause-stopped g c = λ kept r found.
    waits_stop _ _ _ _ _ _ _ _ _ _ _ _ (hub_view g.S.Store.view c.loop-answers.hub) (hub_view g.S.Store.view c.settle.new.hub) r c.loop-answers.invariant.progress c.in_ok-settle.ensures.stopped (c.loop-answers.invariant.waits kept) found

pub returns-in-Ok-clause-kept : goal.returns-in-Ok-clause-kept
returns-in-Ok-clause-kept g c = λ kept.
    let settle = c.in_ok-settle.ensures in
    waits_end (hub_view g.S.Store.view) _ _ _ _ _ _ settle.same settle.kept (c.loop-answers.invariant.waits kept)

pub returns-in-Err-clause-fault_world : goal.returns-in-Err-clause-fault_world
returns-in-Err-clause-fault_world g c = λ clean.
    let settle = c.in_ok-settle.ensures in
    progress_stop_settled _ _ _ _ _ _ _ _ _ _ _ _ _ _ c.loop-answers.invariant.progress settle.counted.was_clean clean (settle.world clean)

pub returns-in-Err-clause-fault_text : goal.returns-in-Err-clause-fault_text
returns-in-Err-clause-fault_text g c = λ clean.
    let settle = c.in_ok-settle.ensures in
    progress_stop_text _ _ _ _ _ _ _ _ _ _ _ _ _ _ _ c.loop-answers.invariant.progress settle.counted.was_clean clean
    (falls_kept _ _ _ _ _ settle.empty c.flush.ensures.bytes settle.ok)

pub returns-in-Err-clause-stopped : goal.returns-in-Err-clause-stopped
returns-in-Err-clause-stopped g c = λ kept r found.
    waits_stop _ _ _ _ _ _ _ _ _ _ _ _ (hub_view g.S.Store.view c.loop-answers.hub) (hub_view g.S.Store.view c.settle.new.hub) r c.loop-answers.invariant.progress c.in_ok-settle.ensures.stopped (c.loop-answers.invariant.waits kept) found

pub returns-in_err-next-clause-recorded : goal.returns-in_err-next-clause-recorded
returns-in_err-next-clause-recorded g c = λ kept r found.
    told_found _ _ _ _ _ _ _ _ _ _ r (c.loop-answers.invariant.told kept) (λ x has. (has.alone r found).1)

pub returns-in_err-line-clause-recorded : goal.returns-in_err-line-clause-recorded
returns-in_err-line-clause-recorded g c = λ kept r found.
    let inv = c.loop-answers.invariant in
    let line = c.in_err-line.ensures in
    told_in_line _ _ _ _ _ _ _ _ _ _ _ _ _ _ _ _ (hub_view g.S.Store.view c.loop-answers.hub) _ r _ inv.progress (c.in_ok-next.ensures.line c.if-branch.true) inv.same (inv.waits kept) (inv.told kept)
    (λ l held. line.records l (c.held.ensures l held)) (λ now. line_told _ _ _ _ _ _ _ c.held.ensures (line.told now)) (λ clean l held. line.fault_text clean l (c.held.ensures l held)) line.counted.was_clean found

pub returns-in_err-settle_if_due-clause-recorded : goal.returns-in_err-settle_if_due-clause-recorded
returns-in_err-settle_if_due-clause-recorded g c = λ kept r found.
    let inv = c.loop-answers.invariant in
    let line = c.in_ok-line.ensures in
    let due = c.in_err-settle_if_due.ensures in
    let answered = progress_line _ _ _ _ _ _ _ _ _ _ _ _ _ _ _ _ _ _ _ inv.progress (c.in_ok-next.ensures.line c.if-branch.true) line.counted.was_clean inv.same line.number
    (λ clean' l held. line.world clean' l (c.held.ensures l held)) (λ clean' l held. line.text clean' l (c.held.ensures l held)) in
    told_stop (hub_view g.S.Store.view) _ _ _ _ _ _ _ _ _ _ _ _ _ _ _ _ r answered refl due.same due.first due.stopped due.fault due.counted.was_clean (λ clean. ap (λ (u : World). u.rows) (due.world clean))
    (waits_line _ _ _ _ _ _ _ _ _ _ _ _ (hub_view g.S.Store.view c.loop-answers.hub) _ answered refl line.kept line.waits (inv.waits kept))
    (told_line _ _ _ _ _ _ _ _ _ _ _ _ _ (hub_view g.S.Store.view c.loop-answers.hub) _ answered refl (λ now. line.kept now ((inv.waits kept).kept now)) line.waits (inv.told kept)) found

pub returns-in_err-settle-clause-recorded : goal.returns-in_err-settle-clause-recorded
returns-in_err-settle-clause-recorded g c = λ kept r found.
    let inv = c.loop-answers.invariant in
    let settle = c.in_err-settle.ensures in
    told_stop (hub_view g.S.Store.view) _ _ _ _ _ _ _ _ _ _ _ _ _ _ _ _ r inv.progress refl settle.same settle.first settle.stopped settle.fault settle.counted.was_clean (λ clean. ap (λ (u : World). u.rows) (settle.world clean))
    (inv.waits kept) (inv.told kept) found

pub returns-in-Ok-clause-recorded : goal.returns-in-Ok-clause-recorded
returns-in-Ok-clause-recorded g c = λ kept r found.
    let inv = c.loop-answers.invariant in
    let settle = c.in_ok-settle.ensures in
    let settled = progress_settle _ _ _ _ _ _ _ _ _ _ _ _ _ _ _ _ _ inv.progress settle.counted.was_clean settle.world settle.number (settled_text _ _ _ _ settle.empty settle.ok) in
    let kept' = waits_end (hub_view g.S.Store.view) _ _ _ _ _ _ settle.same settle.kept (inv.waits kept) in
    tells_kept _ _ _ _ _ _ _ _ _ r c.flush.ensures.bytes (told_found _ _ _ _ _ _ _ _ _ _ r (told_kept _ _ _ _ _ _ _ _ _ _ _ _ (hub_view g.S.Store.view c.settle.new.hub) settled refl kept') (λ x has. (has.alone r found).1))

pub returns-in-Err-clause-recorded : goal.returns-in-Err-clause-recorded
returns-in-Err-clause-recorded g c = λ kept r found.
    let inv = c.loop-answers.invariant in
    let settle = c.in_ok-settle.ensures in
    let settled = progress_settle _ _ _ _ _ _ _ _ _ _ _ _ _ _ _ _ _ inv.progress settle.counted.was_clean settle.world settle.number (settled_text _ _ _ _ settle.empty settle.ok) in
    let kept' = waits_end (hub_view g.S.Store.view) _ _ _ _ _ _ settle.same settle.kept (inv.waits kept) in
    tells_kept _ _ _ _ _ _ _ _ _ r c.flush.ensures.bytes (told_found _ _ _ _ _ _ _ _ _ _ r (told_kept _ _ _ _ _ _ _ _ _ _ _ _ (hub_view g.S.Store.view c.settle.new.hub) settled refl kept') (λ x has. (has.alone r found).1))
