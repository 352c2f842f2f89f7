-- How times are read.
use Rattle.std.specs.Prelude.{ℕ, ℤ, pos, List, Option, Some, None, Result, Ok, Err, option_map}
use Rattle.std.specs.Int.{int_div_euclid}
use Rattle.std.specs.Result.{result_ok}
use Rattle.jiff_core.specs.declared.error.Error.{Error}
use Rattle.jiff_fmt.specs.Temporal.{DateParts, TimeParts, parse_timestamp, parse_datetime, parts_nanos, instant}

-- the last moment that a Timestamp of `jiff` holds: 9999-12-30T22:00:00Z
abbrev pub last_read_moment : ℕ
last_read_moment = 253402207200

-- the instant of a civil date and time in UTC, in nanoseconds since 1970, where a Timestamp holds it
abbrev pub civil_instant : Result (DateParts × TimeParts) Error → Option ℤ
civil_instant (Ok p) = result_ok (instant (parts_nanos p.0 p.1))
civil_instant (Err e) = None

-- an instant, or else a civil date and time in UTC
abbrev pub instant_or_civil : Result ℤ Error → List ℕ → Option ℤ
instant_or_civil (Ok n) text = Some n
instant_or_civil (Err e) text = civil_instant (parse_datetime text)

-- the time that a text is, in milliseconds since 1970, floored
abbrev pub time_of : List ℕ → Option ℤ
time_of text = option_map (λ n. int_div_euclid n (pos 1_000_000)) (instant_or_civil (parse_timestamp text) text)
