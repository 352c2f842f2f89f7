use Rattle.journal.proofs.Cuts.{ends_cut}
use Rattle.journal.proofs.pending.Pending.add_cut.Goals as goal

pub returns-clause-ends : goal.returns-clause-ends
returns-clause-ends c = λ none. ends_cut c.args.self.now.bytes.items c.extend_from_slice.new.self.items c.in_ok-extend_from_slice.ensures.items none
