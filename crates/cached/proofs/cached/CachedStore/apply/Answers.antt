use Rattle.std.proofs.Common.{subst, sym}
use Rattle.cached.proofs.MemoLaws.{applied}
use Rattle.cached.specs.Answers.{AreRight, IsRightUnder}
use Rattle.cached.specs.ReadingAnswers.{digest_of_reading, IsLast}
use Rattle.cached.specs.StationAnswers.{digest_of_station, IsRegistered}
use Rattle.cached.specs.TagAnswers.{digest_of_tag, IsRight}
use Rattle.cached.proofs.cached.CachedStore.apply.Goals as goal

pub invariant_of-self : goal.invariant_of-self
invariant_of-self g c =
    let s = c.args.self.now in
    let rows = (g.S.Store.view s.store).rows in
    let after = (g.S.Store.view c.apply.new.self).rows in
    let b = c.args.change.now.op.now in
    let e = c.args.change.now.edit.now in
    record {
      tags_right = λ clean.
          let were = s.tags_right (c.apply.ensures.counted.was_clean clean) in
          applied (IsRightUnder digest_of_tag IsRight) rows after b e c.drop_stale.new.self.answers.entries c.apply.result (c.drop_stale.ensures.before rows were) (c.drop_stale.ensures.after rows were) (c.apply.ensures.ok clean) (c.apply.ensures.err clean);
      stations_right = λ clean.
          let were = s.stations_right (c.apply.ensures.counted.was_clean clean) in
          applied (IsRightUnder digest_of_station IsRegistered) rows after b e c.drop_touched.new.self.answers.entries c.apply.result (c.drop_touched.ensures.before rows were) (c.drop_touched.ensures.after rows were) (c.apply.ensures.ok clean) (c.apply.ensures.err clean);
      readings_right = λ clean.
          let were = s.readings_right (c.apply.ensures.counted.was_clean clean) in
          applied (IsRightUnder digest_of_reading IsLast) rows after b e c.drop_touched-2.new.self.answers.entries c.apply.result (c.drop_touched-2.ensures.before rows were) (c.drop_touched-2.ensures.after rows were) (c.apply.ensures.ok clean) (c.apply.ensures.err clean);
    }

pub invariant_of-self-2 : goal.invariant_of-self-2
invariant_of-self-2 g c =
    let s = c.args.self.now in
    let rows = (g.S.Store.view s.store).rows in
    let after = (g.S.Store.view c.apply.new.self).rows in
    let b = c.args.change.now.op.now in
    let e = c.args.change.now.edit.now in
    record {
      tags_right = λ clean.
          let were = s.tags_right (c.apply.ensures.counted.was_clean clean) in
          applied (IsRightUnder digest_of_tag IsRight) rows after b e c.drop_stale.new.self.answers.entries c.apply.result (c.drop_stale.ensures.before rows were) (c.drop_stale.ensures.after rows were) (c.apply.ensures.ok clean) (c.apply.ensures.err clean);
      stations_right = λ clean.
          let were = s.stations_right (c.apply.ensures.counted.was_clean clean) in
          applied (IsRightUnder digest_of_station IsRegistered) rows after b e c.drop_touched.new.self.answers.entries c.apply.result (c.drop_touched.ensures.before rows were) (c.drop_touched.ensures.after rows were) (c.apply.ensures.ok clean) (c.apply.ensures.err clean);
      readings_right = λ clean.
          let was = c.apply.ensures.counted.was_clean clean in
          let made = c.in_ok-apply.ensures.ok clean in
          subst (λ rs. AreRight digest_of_reading IsLast rs c.keep_last.new.readings) (sym made) (c.keep_last.ensures rows (g.met.S.Store.well_formed s.store was) (c.requires was) (c.drop_touched-2.ensures.after rows (s.readings_right was)));
    }
