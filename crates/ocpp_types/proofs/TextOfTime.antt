-- The text of a moment is that of its datetime.
use Rattle.std.proofs.Common.{◌≡◌, ℕ, zero, suc, ◌+◌, ◌-◌, ◌*◌, ◌/◌, ◌%◌, ◌<◌, ◌≤◌, nat_lt, Bool, true, false, cond, ℤ, pos, ◌++◌, codes, arith, refl, ap, sym, ◌∙◌}
use Rattle.std.proofs.lemmas.Bool.{ltb-true, ltb-false}
use Rattle.std.proofs.lemmas.Int.{by_lt_z}
use Rattle.jiff.specs.Names.{iso_datetime_text}
use Rattle.jiff_core.specs.Calendar.{day_count, days_in_year, days_in_month}
use Rattle.jiff_core.specs.Date.{epoch_day}
use Rattle.jiff_core.specs.DateTime.{civil_nanos}
use Rattle.jiff_core.specs.Time.{time_nanos}
use Rattle.jiff_core.specs.declared.civil.date.Date.{Date}
use Rattle.jiff_core.specs.declared.civil.datetime.DateTime.{DateTime}
use Rattle.jiff_core.proofs.SignedLemmas.{signed_arith}
use Rattle.jiff_core.proofs.CalendarLemmas.{day_count-epoch, days_from_civil-day_count, days_in_year_bounds, day_count-next_year, day_count-later_year, day_count-next_month, day_count-last_of_year, day_count-day, day_count-end, day_count_bounds}
use Rattle.jiff_core.proofs.DateLemmas.{civil, epoch_day_range, epoch_day_injective}
use Rattle.jiff_core.proofs.DateTimeLemmas.{civil_nanos-parts, time_nanos_bound}
use Rattle.ocpp_types.specs.TimeText.{year_at, month_at, year_of, month_of, time_text}

record YearAt (year left k : ℕ) (p : ℕ × ℕ) : Type 0 where
  count : day_count (pos p.0) 1 1 + p.1 ≡ day_count (pos year) 1 1 + left
  within : p.1 < days_in_year (pos p.0)

year_at-step : (b : Bool) (k year left : ℕ) (found : ℕ × ℕ) → nat_lt left (days_in_year (pos year)) ≡ b
    → (days_in_year (pos year) ≤ left → YearAt (year + 1) (left - days_in_year (pos year)) k found) → YearAt year left (suc k) (cond b (year, left) found)
year_at-step true k year left found e rest = record { count = refl; within = ltb-true _ _ e }
year_at-step false k year left found e rest =
    let over : days_in_year (pos year) ≤ left = ltb-false _ _ e in
    let later = rest over in
    let next = day_count-next_year (pos year) (pos (year + 1)) (omega (arith, signed_arith)) (omega (arith, signed_arith)) in
    record { count = omega (arith, later.count, next); within = later.within }

year_at-is : (k year left : ℕ) → left < (k + 1) * 365 → YearAt year left k (year_at k year left)
unfolding year_at
year_at-is zero year left h = record { count = refl; within = omega (arith, days_in_year_bounds (pos year)) }
year_at-is (suc k) year left h =
    year_at-step (nat_lt left (days_in_year (pos year))) k year left _ refl (λ over. year_at-is k (year + 1) (left - days_in_year (pos year)) (omega (arith, over, days_in_year_bounds (pos year))))

record MonthAt (year : ℤ) (month left : ℕ) (p : ℕ × ℕ) : Type 0 where
  count : day_count year p.0 1 + p.1 ≡ day_count year month 1 + left
  within : p.1 < days_in_month year p.0
  low : 1 ≤ p.0
  high : p.0 ≤ 12

month_at-step : (b : Bool) (year : ℤ) (month left : ℕ) (found : ℕ × ℕ) → nat_lt left (days_in_month year month) ≡ b → 1 ≤ month → month ≤ 12
    → (days_in_month year month ≤ left → MonthAt year (month + 1) (left - days_in_month year month) found) → MonthAt year month left (cond b (month, left) found)
month_at-step true year month left found e first last rest = record { count = refl; within = ltb-true _ _ e; low = first; high = last }
month_at-step false year month left found e first last rest =
    let over : days_in_month year month ≤ left = ltb-false _ _ e in
    let later = rest over in
    let next = day_count-next_month year month first in
    record { count = omega (arith, later.count, next); within = later.within; low = later.low; high = later.high }

month_at-is : (k : ℕ) (year : ℤ) (month left : ℕ) → month + k ≡ 12 → 1 ≤ month → day_count year month 1 + left < day_count year 1 1 + days_in_year year → MonthAt year month left (month_at k year month left)
unfolding month_at
month_at-is zero year month left last first h =
    let december : month ≡ 12 = omega arith in
    let here = rw december at h in
    let bound : left < 31 = omega (arith, here, day_count-last_of_year year, day_count-day year 12 1 31 (omega arith) (omega arith)) in
    record { count = refl; within = rw december bound; low = first; high = omega arith }
month_at-is (suc k) year month left last first h =
    month_at-step (nat_lt left (days_in_month year month)) year month left _ refl first (omega arith)
    (λ over. month_at-is k year (month + 1) (left - days_in_month year month) (omega arith) (omega arith) (omega (arith, over, h, day_count-next_month year month first)))

-- a date's parts are those of the year and the month found for its day number
parts : (d : Date) (day : ℕ) (p q : ℕ × ℕ) → epoch_day d ≡ pos day → YearAt 1970 day 8040 p → MonthAt (pos p.0) 1 p.1 q → (d.year ≡ pos p.0) × (d.month ≡ q.0) × (d.day ≡ q.1 + 1)
parts d day p q e y m =
    let total : day_count d.year d.month d.day ≡ 4_371_953 + day = omega (arith, signed_arith, days_from_civil-day_count d.year d.month d.day, e) in
    let bounds = day_count_bounds d.year d.month d.day (civil d) in
    let start : day_count (pos p.0) 1 1 + p.1 ≡ 4_371_953 + day = omega (arith, y.count, day_count-epoch) in
    let small : p.0 < 10000 = by_lt_z (pos p.0) (pos 10000)
    (λ lt. omega (arith, signed_arith, lt))
    (λ ge. by_lt_z (pos 10000) (pos p.0)
    (λ gt. absurd (omega (arith, signed_arith, start, total, bounds.1, day_count-end, day_count-later_year (pos 10000) (pos p.0) (omega (arith, signed_arith)) gt)))
    (λ le. absurd (let same : p.0 ≡ 10000 = omega (arith, signed_arith, ge, le) in omega (arith, start, total, bounds.1, ap (λ n. day_count (pos n) 1 1) same, day_count-end)))) in
    let made : Date = record {
      year = pos p.0;
      month = q.0;
      day = q.1 + 1;
      year_in = (omega (arith, signed_arith), omega (arith, signed_arith));
      month_in = (m.low, m.high);
      day_in = (omega arith, omega (arith, m.within));
    } in
    let number : epoch_day made ≡ pos day =
    omega (arith, signed_arith, days_from_civil-day_count (pos p.0) q.0 (q.1 + 1), day_count-day (pos p.0) q.0 1 (q.1 + 1) (omega arith) (omega arith), m.count, start) in
    epoch_day_injective d made (e ∙ sym number)

-- the text of a datetime with that many whole seconds
pub text_of_time : (seconds : ℕ) (d : DateTime) → civil_nanos d ≡ pos (seconds * 1_000_000_000) → iso_datetime_text d ++ codes "Z" ≡ time_text seconds
unfolding time_text year_of month_of
text_of_time seconds d e =
    let date : epoch_day d.date ≡ pos (seconds / 86_400) = omega (arith, signed_arith, civil_nanos-parts d, time_nanos_bound d.time, e) in
    let range = epoch_day_range d.date in
    let enough : seconds / 86_400 < (8040 + 1) * 365 = omega (arith, signed_arith, date, range.1) in
    let year = year_at-is 8040 1970 (seconds / 86_400) enough in
    let month = month_at-is 11 (pos (year_at 8040 1970 (seconds / 86_400)).0) 1 (year_at 8040 1970 (seconds / 86_400)).1 refl (omega arith) (omega (arith, year.within)) in
    let found = parts d.date (seconds / 86_400) _ _ date year month in
    let nanos : time_nanos d.time ≡ seconds % 86_400 * 1_000_000_000 = omega (arith, signed_arith, civil_nanos-parts d, time_nanos_bound d.time, e) in
    let hour : d.time.hour ≡ seconds % 86_400 / 3600 = omega (arith, nanos) in
    let minute : d.time.minute ≡ seconds % 3600 / 60 = omega (arith, nanos) in
    let second : d.time.second ≡ seconds % 60 = omega (arith, nanos) in
    let subsec : d.time.subsec_nanosecond ≡ 0 = omega (arith, nanos) in
    rw (found.0, found.1, found.2, hour, minute, second, subsec) refl
