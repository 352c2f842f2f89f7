-- Numbers of readings.
use Rattle.std.specs.Prelude.{ℕ, ◌+◌, nat_le, Bool}
use Rattle.hub_rows.specs.Transactions.{last_of_all}

-- whether so many numbers are left after the last one that was given
abbrev pub has_room : ℕ → ℕ → Bool
has_room last count = nat_le (last + count) last_of_all
