-- Reservations of connectors, and what rules ask of them.
use Rattle.std.specs.Prelude.{ℕ, ℤ, pos, ◌+ℤ◌, ◌-ℤ◌, unsigned_abs, List, Bool, false, ◌&&◌, ◌==◌, Option, Some, None}
use Rattle.std.specs.Option.{option_map}
use Rattle.std.specs.Str.{bytes_eq}
use Rattle.hub_rows.specs.declared.reservation_row.ReservationRow.{ReservationRow}
use Rattle.hub_rows.specs.Keyed.{found, those, without}

-- a signed number of 32 bits, as a natural in the same order
abbrev pub shifted : ℤ → ℕ
shifted id = unsigned_abs (id +ℤ pos 2147483648)

-- the number that was shifted
abbrev pub unshifted : ℕ → ℤ
unshifted n = pos n -ℤ pos 2147483648

-- the reservation of that id of a station
abbrev pub is_reservation : List ℕ → ℕ → ReservationRow → Bool
is_reservation station id r = bytes_eq r.station station && r.id == id

-- the one that a start names, by the number that it was sent with
abbrev pub is_named : List ℕ → Option ℤ → ReservationRow → Bool
is_named station None r = false
is_named station (Some id) r = is_reservation station (shifted id) r

-- ---- the reservations of operator b, among those of all

abbrev pub reservations_in : List ℕ → List ℕ → List ReservationRow → List ReservationRow
reservations_in b station rows = those (λ r. r.op) b (λ r. bytes_eq r.station station) rows

-- when the one of an id expires
abbrev pub reserved_until_in : List ℕ → List ℕ → ℕ → List ReservationRow → Option ℕ
reserved_until_in b station id rows = option_map (λ r. r.reservation.expiry) (found (λ r. r.op) b (is_reservation station id) rows)

-- all but the one that a start names
abbrev pub without_named : List ℕ → List ℕ → Option ℤ → List ReservationRow → List ReservationRow
without_named b station id rows = without (λ r. r.op) b (is_named station id) rows
