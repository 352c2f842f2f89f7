use Rattle.std.proofs.Common.{◌≡◌, ◌++◌, ◌∷◌, drop, arith}
use Rattle.std.proofs.lemmas.Grind.{common_steps}
use Rattle.replay.proofs.Parts.{after_feed}
use Rattle.replay.proofs.input_lines.Lines.take_front.Goals as goal

pub returns-in_ok-hold-in-Some-clause-found : goal.returns-in_ok-hold-in-Some-clause-found
returns-in_ok-hold-in-Some-clause-found c = λ _.
    let front = c.in-Some.front.now in
    let whole : drop c.args.self.now.start c.args.self.now.buffer.items ≡ front ++ (10 ∷ c.in-Some.field-0-1.now) = grind (arith, common_steps, c.in-Some.ensures.1, c.deref.ensures.value) in
    (front, after_feed c.args.self.now.buffer.items front c.in-Some.field-0-1.now c.args.self.now.start whole, c.in-Some.ensures.0, c.in_ok-hold-in-Some.ensures.held)
