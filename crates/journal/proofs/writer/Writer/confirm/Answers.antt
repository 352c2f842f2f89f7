use Rattle.journal.proofs.Writers.{confirmed, none_now, nothing_added, on_ok}
use Rattle.journal.proofs.writer.Writer.confirm.Goals as goal

pub returns-then-not-self : goal.returns-then-not-self
returns-then-not-self g c = λ counts is_hosted taken now was. (nothing_added g.W.Write.contents is_hosted c.args.self.now taken now was, was)

pub returns : goal.returns
returns g c = λ counts. on_ok c.write_turn.result (λ turn. λ is_hosted taken now was.
    confirmed g.W.Write.contents is_hosted c.args.self.now c.write_turn.new.self taken now (none_now g.W.Write.contents is_hosted c.args.self.now taken now was (c.is_empty.ensures c.if-not-is_empty.false))
    c.write_turn.ensures.same (turn is_hosted taken now was)) (c.write_turn.ensures.turn counts)
