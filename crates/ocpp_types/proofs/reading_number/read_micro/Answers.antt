-- A text from which no minus was taken doesn't begin with one.
use Rattle.std.proofs.Common.{arith, ◌≡◌, false, None, Some, pos, ap, ◌∙◌}
use Rattle.std.specs.Str.Parse.{starts_with_minus}
use Rattle.std.proofs.lemmas.Int.{ints}
use Rattle.std.proofs.lemmas.Str.Pattern.{strip_prefix_char}
use Rattle.ocpp_types.specs.Micro.{micro}
use Rattle.ocpp_types.proofs.Sign.{no_minus}
use Rattle.ocpp_types.proofs.reading_number.read_micro.Goals as goal

pub returns-in_err-magnitude-in-None : goal.returns-in_err-magnitude-in-None
returns-in_err-magnitude-in-None c =
    let plain : starts_with_minus c.args.text.now ≡ false = no_minus c.args.text.now (strip_prefix_char 45 c.args.text.now None c.in-None.ensures.cases (omega arith)) in
    grind arith

pub returns-in_ok-magnitude-in-None : goal.returns-in_ok-magnitude-in-None
returns-in_ok-magnitude-in-None c =
    let plain : starts_with_minus c.args.text.now ≡ false = no_minus c.args.text.now (strip_prefix_char 45 c.args.text.now None c.in-None.ensures.cases (omega arith)) in
    let value : Some (pos c.in_ok-magnitude-in-None.field-0) ≡ micro c.args.text.now c.args.unit = grind arith in
    ap Some (omega (arith, ints, c.in_ok-magnitude-in-None.ensures.within)) ∙ value
