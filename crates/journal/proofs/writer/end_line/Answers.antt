use Rattle.std.proofs.Common.{◌∙◌, ◌++◌, ◌∷◌, [], ap}
use Rattle.journal.proofs.Writers.{not_cut, was_cut}
use Rattle.journal.proofs.writer.end_line.Goals as goal

pub returns-then-not-tail : goal.returns-then-not-tail
returns-then-not-tail g c = λ is_hosted bytes taken changes is whole told.
    not_cut is_hosted (g.W.Write.contents c.args.file.now) c.args.tail.now.is_cut bytes taken changes is c.if-not-tail.true whole told

pub returns : goal.returns
returns g c = λ is_hosted bytes taken changes is whole told.
    was_cut is_hosted (g.W.Write.contents c.args.file.now) (g.W.Write.contents c.write_to.new.file) bytes c.add_cut.new.self.bytes.items taken changes is c.in_ok-write_to.ensures.written
    (c.in_ok-add_cut.ensures.ends c.new-cut.ensures) (c.in_ok-add_cut.ensures.added ∙ ap (λ xs. xs ++ (255 ∷ 10 ∷ [])) c.new-cut.ensures) told
