-- Digits that are moved up to the ninth place stay below 10 ^ 9.
use Rattle.std.proofs.Common.{arith, ◌≡◌, ◌≤◌, ◌<◌, ◌+◌, ◌-◌, ◌*◌, ◌^◌, ℕ, length}
use Rattle.std.proofs.Math.Nat.{mul-lt-mul_of_pos_right, one-le-pow}
use Rattle.std.proofs.lemmas.Nat.{pow-add}
use Rattle.ocpp_types.proofs.reading_number.fraction_billionths.Goals as goal

shifted : (n k : ℕ) → n < 10 ^ k → k ≤ 9 → n * 10 ^ (9 - k) < 10 ^ 9
shifted n k small short =
    let less = mul-lt-mul_of_pos_right small (one-le-pow (9 - k) 10 (omega arith)) in
    let places : k + (9 - k) ≡ 9 = omega arith in
    let e = rw places at (pow-add 10 k (9 - k)) in
    omega (arith, e, less)

pub returns-clause-within : goal.returns-clause-within
returns-clause-within c =
    let less = shifted c.in_ok-digits.digits (length c.args.text.now) c.in_ok-digits.ensures.within c.in_ok-digits.ensures.short in
    rw c.pow.ensures less
