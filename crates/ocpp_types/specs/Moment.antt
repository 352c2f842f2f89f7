-- Moments, as their seconds since 1970.
use Rattle.std.specs.Prelude.{ℕ, nat_le, if◌then◌else◌, Option, Some, None}

-- 9999-12-31T23:59:59Z
abbrev pub last_moment : ℕ
last_moment = 253402300799

-- the moment of a number of seconds
abbrev pub moment_of : ℕ → Option ℕ
moment_of seconds = if nat_le seconds last_moment then Some seconds else None
