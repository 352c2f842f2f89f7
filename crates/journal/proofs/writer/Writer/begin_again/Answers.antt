use Rattle.std.proofs.Common.{◌++◌, refl}
use Rattle.journal.specs.declared.entry.Entry.TheVariants.{Begins}
use Rattle.journal.proofs.Writers.{mark_written, on_ok_two, opened}
use Rattle.journal.proofs.writer.Writer.begin_again.Goals as goal

pub returns-clause-begun : goal.returns-clause-begun
returns-clause-begun g c = λ count feedless. on_ok_two c.write.result (λ written empty. λ is_hosted taken says.
    let it = mark_written is_hosted (g.W.Write.contents c.args.self.now.file) (g.W.Write.contents c.write.new.self.file) says.file c.clear.new.self.bytes.items c.add_begins.new.self.bytes.items
    c.args.self.now.changes taken (Begins c.args.self.now.changes c.args.operators.now) (λ found line. refl) says.known says.whole says.told c.clear.ensures
    (c.in_ok-add_begins.ensures.line count feedless is_hosted) written in (
      it.wrote,
      opened g.W.Write.contents is_hosted c.write.new.self (says.file ++ c.add_begins.new.self.bytes.items) c.args.self.now.changes taken it.is it.waits empty c.write.ensures.same.1 c.write.ensures.same.0,
      it.ends,
    )) c.write.ensures.written c.write.ensures.empty
