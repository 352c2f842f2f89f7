use Rattle.std.proofs.Common.{subst, sym, ap, ◌∙◌}
use Rattle.cached.specs.Answers.{AreRight}
use Rattle.cached.specs.ReadingAnswers.{digest_of_reading, IsLast}
use Rattle.cached.specs.StationAnswers.{digest_of_station, IsRegistered}
use Rattle.cached.specs.TagAnswers.{digest_of_tag, IsRight, looked_up}
use Rattle.cached.proofs.TagLaws.{right_answer}
use Rattle.cached.proofs.cached.Cached.look_up.Goals as goal

pub invariant_of-self-in-Ok-clause-tags_right : goal.invariant_of-self-in-Ok-clause-tags_right
invariant_of-self-in-Ok-clause-tags_right g c = λ clean.
    let same = c.in_ok-info-2.ensures.reads.kept clean in
    let found = c.in_ok-info-2.ensures.found clean in
    let were = c.args.self.now.tags_right (c.in_ok-info-2.ensures.reads.was_clean clean) in
    c.keep.ensures (g.S.Store.view c.ask.new.store).rows (subst (λ rows. AreRight digest_of_tag IsRight rows c.args.self.now.tags) (sym same) were)
    (right_answer c.args.look_up c.args.op.now c.args.key.now (g.S.Store.view c.ask.new.store).rows c.in-Ok.answer _ c.in-Ok.ensures.about c.in-Ok.ensures.info (found ∙ ap (looked_up c.args.look_up c.args.op.now c.args.key.now) (sym same)))

pub invariant_of-self-in-Ok-clause-stations_right : goal.invariant_of-self-in-Ok-clause-stations_right
invariant_of-self-in-Ok-clause-stations_right g c = λ clean.
    let reads = c.in_ok-info-2.ensures.reads in
    subst (λ rows. AreRight digest_of_station IsRegistered rows c.args.self.now.stations) (sym (reads.kept clean)) (c.args.self.now.stations_right (reads.was_clean clean))

pub invariant_of-self-in-Ok-clause-readings_right : goal.invariant_of-self-in-Ok-clause-readings_right
invariant_of-self-in-Ok-clause-readings_right g c = λ clean.
    let reads = c.in_ok-info-2.ensures.reads in
    subst (λ rows. AreRight digest_of_reading IsLast rows c.args.self.now.readings) (sym (reads.kept clean)) (c.args.self.now.readings_right (reads.was_clean clean))
