use Rattle.std.proofs.Common.{◌≡◌, ◌∙◌, ap, inl, inr}
use Rattle.hub_rows.specs.Operators.{is_hosted}
use Rattle.pending_calls.specs.Slots.{first_number}
use Rattle.station_calls.specs.Book.{book_answers}
use Rattle.hub.specs.Effects.{edit_of}
use Rattle.hub.specs.Hub.{world, setting}
use Rattle.hub.specs.World.{Setting, World, plan_at, rows_after}
use Rattle.hub.proofs.Committing.{edit_of_plan_fits}
use Rattle.hub.proofs.hub.Hub.commit_at.Goals as goal

pub commit-requires-clause-fits : goal.commit-requires-clause-fits
unfolding setting
commit-requires-clause-fits g c = λ clean.
    let st : Setting = setting g.V.VendorHandler.view c.args.self.now in
    let w : World = world g.S.Store.view c.args.self.now in
    edit_of_plan_fits st.first_number st.is_hosted st.answers c.args.lent.now.op.now c.args.lent.now.what.now c.args.lent.now.moment w (g.met.S.Store.well_formed c.args.self.now.book.store clean) c.args.plan (c.requires.1 clean)

pub returns-clause-setting : goal.returns-clause-setting
unfolding setting
returns-clause-setting g c = λ i. record { is_hosted = is_hosted c.args.self.now.hosted.items; answers = book_answers g.V.VendorHandler.view c.args.self.now.book; first_number = c.commit.ensures.moves.first i }

pub returns-clause-records : goal.returns-clause-records
unfolding setting
returns-clause-records g c =
    let st : Setting = setting g.V.VendorHandler.view c.args.self.now in
    let w : World = world g.S.Store.view c.args.self.now in
    let lent = c.args.lent.now in
    let it = c.commit.ensures.edits.records in
    record {
      stopped = λ now on_record was r found.
          let one = it.stopped now on_record was r found in (
            one.0,
            elim one.1 [
              | inl before ↦ inl before
              | inr after ↦
                  let is : c.args.plan ≡ plan_at st w lent.op.now lent.moment lent.what.now = c.requires.1 after.0 in
                  inr (after.0, after.1 ∙ ap (λ p. rows_after lent.op.now (edit_of p.effect) w.rows) is)
            ],
          );
      kept = it.kept;
      waits = it.waits;
      left = it.left;
    }
