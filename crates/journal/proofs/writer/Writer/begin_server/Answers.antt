use Rattle.std.proofs.Common.{◌∙◌, ◌++◌, [], Some, ap, refl}
use Rattle.std.proofs.lemmas.List.{append_assoc}
use Rattle.journal.specs.declared.entry.Entry.TheVariants.{Begins}
use Rattle.journal.proofs.Stops.{survives_both}
use Rattle.journal.proofs.Writers.{mark_written, opened}
use Rattle.journal.proofs.writer.Writer.begin_server.Goals as goal

pub returns : goal.returns
returns g c = λ count feedless is_hosted bytes taken known whole told.
    let ended = c.in_ok-end_line.ensures is_hosted bytes taken c.args.changes known whole told in
    let file = bytes ++ ended.added in
    let it = mark_written is_hosted (g.W.Write.contents c.end_line.new.file) (g.W.Write.contents c.write.new.self.file) file c.new-lines.result.bytes.items c.add_begins.new.self.bytes.items
    c.args.changes taken (Begins c.args.changes c.args.operators.now) (λ found line. refl) ended.is ended.whole ended.told c.new-lines.ensures
    (c.in_ok-add_begins.ensures.line count feedless is_hosted) c.in_ok-write.ensures.written in (
      record {
        file = bytes;
        added = ended.added ++ c.add_begins.new.self.bytes.items;
        was = refl;
        is = it.is ∙ ap Some (append_assoc bytes ended.added c.add_begins.new.self.bytes.items);
        survives = survives_both is_hosted bytes ended.added c.add_begins.new.self.bytes.items c.args.changes taken ended.survives it.survives;
      },
      opened g.W.Write.contents is_hosted c.write.new.self (file ++ c.add_begins.new.self.bytes.items) c.args.changes taken it.is it.waits c.in_ok-write.ensures.empty c.write.ensures.same.1 c.write.ensures.same.0,
      it.ends,
    )
