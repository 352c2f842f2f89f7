use Rattle.std.proofs.Common.{None, sym, ◌∙◌, arith}
use Rattle.std.proofs.lemmas.Str.Pattern.{strip_prefix_char}
use Rattle.repairs.proofs.Zeros.{without_zeros-other}
use Rattle.repairs.proofs.texts.without_zeros.Goals as goal

pub returns : goal.returns
returns c =
    let digits = c.loop-rest.digits.now in
    sym (without_zeros-other digits (strip_prefix_char 48 digits None c.in_default.ensures.cases (omega arith))) ∙ c.loop-rest.invariant.same
