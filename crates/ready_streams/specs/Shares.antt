-- Whose streams are served next.
use Rattle.std.specs.Prelude.{ℕ, ◌≤◌, ◌<◌, ◌≡◌, Bool, true, false, ◌&&◌, List, max, nat_le, nat_lt, slice_index_or, Option, Some, None}
use Rattle.ready_streams.specs.declared.shares.Shares.{Shares}

-- what an owner counts as charged: one that was quiet isn't ahead of the one that was served last
abbrev pub charge_of : Shares → ℕ → ℕ
charge_of s owner = max (slice_index_or s.charged.items owner 0) s.least

-- an owner has something to read, and doesn't rest at that time
abbrev pub may_be_served : Shares → List Bool → ℕ → ℕ → Bool
may_be_served s waits now owner = slice_index_or waits owner false && nat_le (slice_index_or s.rests.items owner 0) now

-- of the owners below that number that may be served it is one that counts as charged least; none only where none may be
abbrev pub IsLeastBelow : ℕ → Shares → List Bool → ℕ → Option ℕ → Type 0
IsLeastBelow end s waits now None = (other : ℕ) → other < end → may_be_served s waits now other ≡ false
IsLeastBelow end s waits now (Some owner) =
    (owner < end) × (may_be_served s waits now owner ≡ true) × ((other : ℕ) → other < end → may_be_served s waits now other ≡ true → charge_of s owner ≤ charge_of s other)

-- an owner counts as charged less than the best, if there is one
abbrev pub counts_less : Shares → ℕ → Option ℕ → Bool
counts_less s owner None = true
counts_less s owner (Some best) = nat_lt (charge_of s owner) (charge_of s best)
