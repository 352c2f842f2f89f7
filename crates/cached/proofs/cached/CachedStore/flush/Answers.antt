use Rattle.std.proofs.Common.{subst, sym}
use Rattle.cached.specs.Answers.{AreRight}
use Rattle.cached.specs.ReadingAnswers.{digest_of_reading, IsLast}
use Rattle.cached.specs.StationAnswers.{digest_of_station, IsRegistered}
use Rattle.cached.specs.TagAnswers.{digest_of_tag, IsRight}
use Rattle.cached.proofs.cached.CachedStore.flush.Goals as goal

pub invariant_of-self : goal.invariant_of-self
invariant_of-self g c =
    let s = c.args.self.now in
    let flush = c.flush.ensures in
    record {
      tags_right = λ clean. subst (λ rows. AreRight digest_of_tag IsRight rows s.tags) (sym (flush.rows clean)) (s.tags_right (flush.counted.was_clean clean));
      stations_right = λ clean. subst (λ rows. AreRight digest_of_station IsRegistered rows s.stations) (sym (flush.rows clean)) (s.stations_right (flush.counted.was_clean clean));
      readings_right = λ clean. subst (λ rows. AreRight digest_of_reading IsLast rows s.readings) (sym (flush.rows clean)) (s.readings_right (flush.counted.was_clean clean));
    }
