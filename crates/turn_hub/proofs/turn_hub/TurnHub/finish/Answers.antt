use Rattle.std.proofs.Common.{◌∙◌, ◌+◌, ◌++◌, ◌∷◌, [], false, inl, inr, refl, subst, sym}
use Rattle.journal.specs.Entries.{IsCount}
use Rattle.turn_hub.specs.Journals.{HasBegun, HasEvents, OfJournal, events_of}
use Rattle.turn_hub.proofs.Laws.{below_one_more, for_journal, left_out, one_taken}
use Rattle.turn_hub.proofs.turn_hub.TurnHub.finish.Goals as goal

pub returns-then-is_idle-clause-journal : goal.returns-then-is_idle-clause-journal
returns-then-is_idle-clause-journal g c = λ small is_hosted events begun. (
  events,
  inr (sym c.is_idle.ensures.says ∙ c.if-is_idle.true, refl),
  for_journal (λ writer. HasBegun g.W.Write.contents is_hosted false writer c.args.self.now.on_record events c.args.event.now) (λ writer. HasEvents g.W.Write.contents is_hosted writer c.args.self.now.on_record events)
      c.args.self.now.journal (λ writer it. left_out g.W.Write.contents is_hosted writer c.args.self.now.on_record events c.args.event.now it) begun,
)

pub returns-in-Some-clause-journal : goal.returns-in-Some-clause-journal
returns-in-Some-clause-journal g c = λ small is_hosted events begun. (
  events ++ (c.args.event.now ∷ []),
  inl refl,
  λ works.
      let it = subst (OfJournal (λ writer. HasBegun g.W.Write.contents is_hosted false writer c.args.self.now.on_record events c.args.event.now)) c.in-Some.is begun (c.take.ensures.works works) in
      let count = below_one_more c.in-Some.journal.events (subst (λ journal. IsCount (events_of journal + 1)) c.in-Some.is small) in
      one_taken g.W.Write.contents is_hosted c.take.new.self c.args.self.now.on_record events c.args.event.now it.taken it.now it.all
      (c.take.ensures.taken count works is_hosted it.taken it.now c.args.event.now it.was) (c.take.ensures.same ∙ it.same),
)

pub returns-in-None-clause-journal : goal.returns-in-None-clause-journal
returns-in-None-clause-journal g c = λ small is_hosted events begun. (
  events ++ (c.args.event.now ∷ []),
  inl refl,
  subst (OfJournal (λ writer. HasEvents g.W.Write.contents is_hosted writer c.args.self.now.on_record (events ++ (c.args.event.now ∷ [])))) (sym c.in-None.is) tt,
)
