-- Twelve digits are below 10 ^ 12.
use Rattle.std.proofs.Common.{arith, ◌≤◌, ◌^◌, length}
use Rattle.std.proofs.Math.Nat.{pow-le-pow_right}
use Rattle.ocpp_types.proofs.reading_number.whole_billionths.Goals as goal

pub returns-clause-within : goal.returns-clause-within
returns-clause-within c =
    let most : 10 ^ length c.args.text.now ≤ 10 ^ 12 = pow-le-pow_right (omega arith) c.in_ok-number_of_digits.ensures.short in
    omega (arith, most, c.in_ok-number_of_digits.ensures.within)
