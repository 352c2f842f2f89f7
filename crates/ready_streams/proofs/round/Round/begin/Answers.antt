-- Fewer streams come before one that waits.
use Rattle.ready_streams.proofs.RoundLaws.{nearer}
use Rattle.ready_streams.proofs.round.Round.begin.Goals as goal

pub returns-clause-nearer : goal.returns-clause-nearer
returns-clause-nearer c = λ streams token has waits. nearer c.args.self.now _ token streams c.in-Some.is has waits
