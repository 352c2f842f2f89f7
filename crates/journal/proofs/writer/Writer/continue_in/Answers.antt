use Rattle.std.proofs.Common.{◌≡◌, ◌∙◌, ◌+◌, ◌++◌, min, ℕ, [], refl, sym, subst, arith}
use Rattle.journal.specs.Entries.{IsCount}
use Rattle.journal.specs.Journals.{AddsLine}
use Rattle.journal.specs.Writers.{WroteTurn}
use Rattle.journal.specs.declared.entry.Entry.TheVariants.{Continues}
use Rattle.journal.proofs.Laws.{whole_nothing}
use Rattle.journal.proofs.Writers.{mark_written, nothing_told, on_ok_two, opened}
use Rattle.journal.proofs.writer.Writer.continue_in.Goals as goal

next_is : (m n : ℕ) → m ≡ min (n + 1) 18446744073709551615 → IsCount (n + 1) → m ≡ n + 1
next_is m n is within = omega (arith, is, within)

pub returns : goal.returns
returns g c = λ small number feedless. on_ok_two c.write.result (λ written empty. λ is_hosted taken now was new.
    let all = c.in_ok-end_turn.ensures.turn small is_hosted taken now was in
    let same = c.end_turn.ensures.same in
    let next = next_is _ c.args.self.now.files c.saturating_add-next.ensures number in
    let old = g.W.Write.contents c.args.self.now.file in
    let now_in = g.W.Write.contents c.write.new.self.file in
    let line = subst (λ n. AddsLine is_hosted (Continues (c.args.self.now.files + 1) n c.args.operators.now) c.end_turn.new.self.lines.bytes.items c.add_continues.new.self.bytes.items) same
    (subst (λ n. AddsLine is_hosted (Continues n c.end_turn.new.self.changes c.args.operators.now) c.end_turn.new.self.lines.bytes.items c.add_continues.new.self.bytes.items) next
    (c.in_ok-add_continues.ensures.line (subst IsCount (sym next) number) (subst IsCount (sym same) small.new) feedless is_hosted)) in
    let it = mark_written is_hosted (g.W.Write.contents c.args.file) now_in [] c.end_turn.new.self.lines.bytes.items c.add_continues.new.self.bytes.items c.args.self.now.changes []
    (Continues (c.args.self.now.files + 1) c.args.self.now.changes c.args.operators.now) (λ found line. refl) new (whole_nothing [] refl) (nothing_told is_hosted c.args.self.now.changes) all.1.empty line written in (
      record { end = all.1.file; wrote = subst (λ o. WroteTurn is_hosted old o c.args.self.now.changes c.args.self.now.changes taken now) all.1.known all.0 },
      record { file = []; added = c.add_continues.new.self.bytes.items; was = refl; is = it.is; survives = it.survives },
      opened g.W.Write.contents is_hosted c.write.new.self ([] ++ c.add_continues.new.self.bytes.items) c.args.self.now.changes [] it.is it.waits empty (c.write.ensures.same.1 ∙ same) (c.write.ensures.same.0 ∙ all.1.none),
      it.ends,
    )) c.write.ensures.written c.write.ensures.empty
