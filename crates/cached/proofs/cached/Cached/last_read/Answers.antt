use Rattle.std.proofs.Common.{subst, sym, ap, ◌∙◌}
use Rattle.hub_rows.specs.MeterValues.{last_reading_in}
use Rattle.cached.specs.Answers.{AreRight}
use Rattle.cached.specs.ReadingAnswers.{digest_of_reading, IsLast}
use Rattle.cached.specs.StationAnswers.{digest_of_station, IsRegistered}
use Rattle.cached.specs.TagAnswers.{digest_of_tag, IsRight}
use Rattle.cached.proofs.ReadingLaws.{right_last}
use Rattle.cached.proofs.cached.Cached.last_read.Goals as goal

pub invariant_of-self-in-Ok : goal.invariant_of-self-in-Ok
invariant_of-self-in-Ok g c =
    let s = c.args.self.now in
    let reads = c.in_ok-last.ensures.reads in
    let rows = (g.S.Store.view c.last_reading.new.self).rows in
    let op = c.args.op.now in
    let station = c.args.station.now in
    record {
      tags_right = λ clean. subst (λ rows. AreRight digest_of_tag IsRight rows s.tags) (sym (reads.kept clean)) (s.tags_right (reads.was_clean clean));
      stations_right = λ clean. subst (λ rows. AreRight digest_of_station IsRegistered rows s.stations) (sym (reads.kept clean)) (s.stations_right (reads.was_clean clean));
      readings_right = λ clean.
          let same = reads.kept clean in
          let found = c.in_ok-last.ensures.found clean in
          c.keep.ensures rows (subst (λ rows. AreRight digest_of_reading IsLast rows s.readings) (sym same) (s.readings_right (reads.was_clean clean)))
          (right_last rows c.in-Ok.answer op station c.in_ok-last.last c.in-Ok.ensures.about c.in-Ok.ensures.last (found ∙ ap (λ rs. last_reading_in op station rs.meter_values) (sym same)));
    }
