-- A printed moment is read again, unless a Timestamp doesn't hold it.
use Rattle.std.proofs.Common.{◌≡◌, ◌<◌, ◌≤◌, ◌-ℤ◌, ℕ, ◌*◌, ◌/◌, pos, int_lt, true, [], ◌∷◌, ◌++◌, codes, Some, None, Err, arith, ap, refl}
use Rattle.std.proofs.lemmas.Bool.Decides.{nat_tests}
use Rattle.jiff.specs.Names.{iso_datetime_text}
use Rattle.jiff_core.proofs.SignedLemmas.{signed_arith}
use Rattle.jiff_core.specs.DateTime.{civil_nanos}
use Rattle.jiff_core.specs.Timestamp.{IsTimestampNanos}
use Rattle.jiff_core.specs.declared.civil.datetime.DateTime.{DateTime}
use Rattle.jiff_core.specs.declared.timestamp.Timestamp.{Timestamp}
use Rattle.jiff_core.specs.Timestamp.{nanos_of_seconds}
use Rattle.jiff_core.specs.declared.error.Error.TheVariants.{Range}
use Rattle.jiff_core.specs.declared.error.Bound.TheVariants as Bound
use Rattle.jiff_fmt.specs.Temporal.{temporal_datetime, date_parts, time_parts, parts_nanos, instant}
use Rattle.jiff_fmt.proofs.RoundTrip.{Stops, datetime-text, time_spec-text, offset-zulu, annotations-empty, parse_timestamp-text}
use Rattle.ocpp_types.specs.Time.{last_read_moment, time_of}

thousands : (n : ℕ) → n * 1_000_000_000 / 1_000_000 ≡ n * 1000
thousands n = omega arith

-- the time of a datetime's text is its seconds in milliseconds
pub time_of-printed : (seconds : ℕ) (d : DateTime) → civil_nanos d ≡ pos (seconds * 1_000_000_000) → seconds ≤ last_read_moment
    → time_of (iso_datetime_text d ++ codes "Z") ≡ Some (pos (seconds * 1000))
time_of-printed seconds d e held =
    let within : IsTimestampNanos (pos (seconds * 1_000_000_000)) = (omega (arith, signed_arith), omega (arith, signed_arith)) in
    let t : Timestamp = record { nanosecond = pos (seconds * 1_000_000_000); in_range = within } in
    let read = parse_timestamp-text d t e in
    rw read (ap (λ n. Some (pos n)) (thousands seconds))

past_the_last : (seconds : ℕ) → last_read_moment < seconds → instant (pos (seconds * 1_000_000_000)) ≡ Err (Range Bound.UnixEpochSeconds)
past_the_last seconds late =
    let over : int_lt (pos 253_402_207_200_999_999_999) (pos (seconds * 1_000_000_000)) ≡ true = grind (arith, signed_arith, nat_tests) in
    rw over

-- the text of a datetime past the last Timestamp is no instant, and its `Z` keeps it from being a civil time
pub time_of-past_the_last : (seconds : ℕ) (d : DateTime) → civil_nanos d ≡ pos (seconds * 1_000_000_000) → last_read_moment < seconds
    → time_of (iso_datetime_text d ++ codes "Z") ≡ None
unfolding temporal_datetime civil_nanos
time_of-past_the_last seconds d e late =
    let stop : Stops (90 ∷ []) = refl in
    let value : parts_nanos (date_parts d.date) (time_parts d.time) -ℤ nanos_of_seconds (pos 0) ≡ pos (seconds * 1_000_000_000) = omega (arith, signed_arith, e) in
    let date = datetime-text d (90 ∷ []) stop in
    let clock = time_spec-text d.time (90 ∷ []) stop in
    rw (date, clock, offset-zulu, annotations-empty, value, past_the_last seconds late) (rw (date, clock, offset-zulu, annotations-empty))
