use Rattle.std.proofs.Common.{sym}
use Rattle.journal.proofs.Writers.{ok_of, on_ok_two, turn_written}
use Rattle.journal.proofs.writer.Writer.write_turn.Goals as goal

pub returns-clause-turn : goal.returns-clause-turn
returns-clause-turn g c = λ counts. on_ok_two c.write.result (λ written empty. λ is_hosted taken now was.
    turn_written g.W.Write.contents is_hosted c.args.self.now c.write.new.self c.add_turn-added.new.self.bytes.items c.args.after taken now was
    (ok_of c.add_turn-added.result (sym c.if-is_err.ensures.value) (c.add_turn-added.ensures.line counts) is_hosted) written empty c.write.ensures.same.0 c.write.ensures.same.1)
    c.write.ensures.written c.write.ensures.empty
