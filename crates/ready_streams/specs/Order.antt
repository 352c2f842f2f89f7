-- The order in which streams take turns.
use Rattle.std.specs.Prelude.{ℕ, Bool, List, nat_lt, if◌then◌else◌, true, false, count_by}

-- a token comes before another, in the order that goes up from the last one, and then from 0 up to it
abbrev pub is_before : ℕ → ℕ → ℕ → Bool
is_before last token other =
    if nat_lt last token then (if nat_lt last other then nat_lt token other else true)
    else (if nat_lt last other then false else nat_lt token other)

-- how many of the streams come before that token
abbrev pub count_before : ℕ → ℕ → List ℕ → ℕ
count_before last token streams = count_by (λ stream. is_before last stream token) streams
