use Rattle.std.proofs.Common.{◌≡◌, [], ◌∷◌, ◌∙◌, arith}
use Rattle.json.specs.Token.{Token}
use Rattle.answer_texts.proofs.Joined.{one_string}
use Rattle.answer_texts.proofs.pieces.with_quoted.Goals as goal

pub returns : goal.returns
returns c =
    let w = c.string.new.self in
    let tokens : w.tokens ≡ Token.string c.args.string.now ∷ [] = grind arith in
    let before : w.before ≡ c.args.text.bytes.items = grind arith in
    c.into_inner-bytes.ensures.items ∙ rw (before, tokens, one_string c.args.string.now)
