use Rattle.std.proofs.Common.{rules, subst, sym}
use Rattle.cached.specs.Answers.{AreRight}
use Rattle.cached.specs.ReadingAnswers.{digest_of_reading, IsLast}
use Rattle.cached.specs.StationAnswers.{digest_of_station, IsRegistered}
use Rattle.cached.proofs.cached.Cached.registered.Goals as goal

pub invariant_of-self-in-Ok-clause-tags_right : goal.invariant_of-self-in-Ok-clause-tags_right
invariant_of-self-in-Ok-clause-tags_right g c = λ clean.
    let same = c.in_ok-registration.ensures.reads.kept clean in
    let were = c.args.self.now.tags_right (c.in_ok-registration.ensures.reads.was_clean clean) in
    search rules

pub invariant_of-self-in-Ok-clause-stations_right : goal.invariant_of-self-in-Ok-clause-stations_right
invariant_of-self-in-Ok-clause-stations_right g c = λ clean.
    let same = c.in_ok-registration.ensures.reads.kept clean in
    let found = c.in_ok-registration.ensures.found clean in
    let were = c.args.self.now.stations_right (c.in_ok-registration.ensures.reads.was_clean clean) in
    c.keep.ensures (g.S.Store.view c.station.new.self).rows (subst (λ rows. AreRight digest_of_station IsRegistered rows c.args.self.now.stations) (sym same) were) (search rules)

pub invariant_of-self-in-Ok-clause-readings_right : goal.invariant_of-self-in-Ok-clause-readings_right
invariant_of-self-in-Ok-clause-readings_right g c = λ clean.
    let reads = c.in_ok-registration.ensures.reads in
    subst (λ rows. AreRight digest_of_reading IsLast rows c.args.self.now.readings) (sym (reads.kept clean)) (c.args.self.now.readings_right (reads.was_clean clean))
