use Rattle.std.proofs.Common.{◌≡◌, ℕ, pos, ◌-ℤ◌, arith}
use Rattle.jiff_core.proofs.SignedLemmas.{signed_arith}
use Rattle.jiff_core.specs.Calendar.{days_from_civil, day_count}
use Rattle.jiff_core.specs.DateTime.{civil_nanos}
use Rattle.jiff_core.specs.declared.civil.datetime.DateTime.{DateTime}
use Rattle.ocpp_types.proofs.time.epoch.Goals as goal

minus_itself : (n : ℕ) → pos n -ℤ pos n ≡ pos 0
minus_itself n = omega (arith, signed_arith)

day_zero : days_from_civil (pos 1970) 1 1 ≡ pos 0
unfolding days_from_civil
day_zero = minus_itself (day_count (pos 1970) 1 1)

nanos : (d : DateTime) → d.date.year ≡ pos 1970 → d.date.month ≡ 1 → d.date.day ≡ 1 → d.time.hour ≡ 0 → d.time.minute ≡ 0 → d.time.second ≡ 0 → d.time.subsec_nanosecond ≡ 0 → civil_nanos d ≡ pos 0
unfolding civil_nanos
nanos d y m day h min s n = rw (y, m, day, day_zero, h, min, s, n)

pub returns : goal.returns
returns c =
    let date = c.datetime.ensures.date in
    let time = c.datetime.ensures.time in
    nanos c.datetime.result date.0 (cc) (cc) (cc) (cc) (cc) (cc)
