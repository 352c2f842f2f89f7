use Rattle.std.proofs.Common.{arith}
use Rattle.journal.proofs.Writers.{nothing_written}
use Rattle.journal.proofs.writer.Writer.end_turn.Goals as goal

pub returns-then-after-self-clause-turn : goal.returns-then-after-self-clause-turn
returns-then-after-self-clause-turn g c = λ counts is_hosted taken now was.
    let same = c.if-after-self.true in
    nothing_written g.W.Write.contents is_hosted c.args.self.now c.args.after taken now was (c.is_empty.ensures c.if-is_empty.true) (omega (arith, same))
