use Rattle.cached.proofs.MemoLaws.{kept}
use Rattle.cached.proofs.memo.Memo.keep.Goals as goal

pub returns : goal.returns
returns g c = λ rows are is. kept g.A.Answer.digest (g.A.Answer.is_right rows) c.args.self.now.answers c.put-put.new.self c.digest.result c.args.answer c.put-put.result c.digest.ensures c.put-put.ensures.entries c.put-put.ensures.err are is
