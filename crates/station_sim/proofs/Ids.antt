-- The ids of calls are short.
use Rattle.std.proofs.Common.{◌≤◌, ◌+◌, ◌*◌, ◌-◌, ℕ, zero, suc, List, [], ◌∷◌, length, arith}
use Rattle.std.specs.Str.{chars, chars_after, continuation_len, lead_bits}
use Rattle.std.proofs.lemmas.Fmt.{length-decimal-le}
use Rattle.ocpp_types.specs.Text.{characters}
use Rattle.station_sim.specs.Calls.{call_id}

after_short : (n c : ℕ) (bs : List ℕ) → length (chars_after n c bs) ≤ 1 + length bs
after_short zero c [] = omega arith
after_short zero c (b ∷ bs) = let h = after_short (continuation_len b) (lead_bits b) bs in omega (arith, h)
after_short (suc n) c [] = omega arith
after_short (suc n) c (b ∷ bs) = let h = after_short n (c * 64 + (b - 128)) bs in omega (arith, h)

-- there are no more characters than bytes
chars_short : (bs : List ℕ) → length (chars bs) ≤ length bs
unfolding chars
chars_short [] = omega arith
chars_short (b ∷ bs) = let h = after_short (continuation_len b) (lead_bits b) bs in omega (arith, h)

pub id_short : (n : ℕ) → n ≤ 4000000000 → characters (call_id n) ≤ 36
id_short n few =
    let all = chars_short (call_id n) in
    let digits = length-decimal-le 10 n (omega arith) (omega (arith, few)) (omega (arith, few)) in
    omega (arith, all, digits)
