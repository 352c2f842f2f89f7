use Rattle.std.proofs.Common.{◌≡◌, [], ◌∷◌, decimal, ◌∙◌, arith}
use Rattle.json.specs.Token.{Token}
use Rattle.answer_texts.proofs.Joined.{one_number}
use Rattle.answer_texts.proofs.pieces.with_number.Goals as goal

pub returns : goal.returns
returns c =
    let w = c.u64.new.self in
    let tokens : w.tokens ≡ Token.number (decimal c.args.number) ∷ [] = grind arith in
    let before : w.before ≡ c.args.text.bytes.items = grind arith in
    c.into_inner-bytes.ensures.items ∙ rw (before, tokens, one_number (decimal c.args.number))
