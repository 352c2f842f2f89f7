use Rattle.std.proofs.Common.{◌∙◌, ap, arith}
use Rattle.std.proofs.lemmas.Str.Pattern.{strip_prefix_char}
use Rattle.ocpp_types.proofs.Sign.{plus_left_out}
use Rattle.ocpp_types.proofs.reading_number.without_plus.Goals as goal

pub returns : goal.returns
returns c =
    ap (λ t. t.now) c.unwrap_or.ensures
    ∙ plus_left_out c.args.text c.strip_prefix.result (strip_prefix_char 43 c.args.text.now c.strip_prefix.result c.strip_prefix.ensures.cases (omega arith))
