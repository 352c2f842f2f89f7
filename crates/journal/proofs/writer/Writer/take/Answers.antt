use Rattle.std.proofs.Common.{arith, refl, sym, ℕ, min, ◌+◌, ◌≡◌}
use Rattle.journal.specs.Entries.{IsCount}
use Rattle.journal.proofs.Writers.{event_taken, ok_of}
use Rattle.journal.proofs.writer.Writer.take.Goals as goal

one_more : (m n : ℕ) → m ≡ min (n + 1) 18446744073709551615 → IsCount n → m ≡ n + 1
one_more m n is within = omega (arith, is, within)

pub returns-clause-taken : goal.returns-clause-taken
returns-clause-taken g c = λ small ok is_hosted taken now event handling.
    event_taken g.W.Write.contents is_hosted c.args.self.now _ taken now event handling refl refl
    (ok_of c.append.result (sym c.if-is_err.ensures.value) c.append.ensures.bytes) (one_more _ c.args.self.now.events c.saturating_add-self.ensures small)
