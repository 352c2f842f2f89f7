use Rattle.std.proofs.Common.{◌≡◌, ◌∙◌, subst, sym}
use Rattle.journal.specs.Entries.{IsCount}
use Rattle.journal.specs.Writers.{Says}
use Rattle.turn_hub.specs.Journals.{OfJournal}
use Rattle.turn_hub.proofs.Laws.{below_one_more, later, on_ok_two}
use Rattle.turn_hub.proofs.turn_hub.TurnHub.begin_again.Goals as goal

pub returns-in-Some-clause-journaled : goal.returns-in-Some-clause-journaled
returns-in-Some-clause-journaled g c = λ small feedless. on_ok_two c.begin_again.result (λ begun works. λ is_hosted events says still.
    let was = subst (OfJournal (λ writer. Says g.W.Write.contents is_hosted writer events × (writer.changes ≡ c.args.self.now.on_record))) c.in-Some.is says works.0 in
    record {
      was = (begun (subst IsCount (sym was.1) (below_one_more c.args.self.now.on_record small.on_record)) is_hosted events was.0).1;
      same = c.begin_again.ensures.same ∙ was.1;
    })
    (later c.begin_again.result _ (λ count. c.begin_again.ensures.begun count feedless)) c.begin_again.ensures.works
