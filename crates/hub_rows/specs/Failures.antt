-- The count of a store's failures.
use Rattle.std.specs.Prelude.{ℕ, ◌<◌, ◌≤◌, ◌⊎◌}

-- the count rose; one that is at 2^64 - 1 stays there, which counts as rising
abbrev pub Rose : ℕ → ℕ → Type 0
Rose old new = (old < new) ⊎ (18_446_744_073_709_551_615 ≤ new)
