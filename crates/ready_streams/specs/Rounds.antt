-- Streams that take turns.
use Rattle.std.specs.Prelude.{◌≡◌, ℕ, true, Option, Some, None, ◌⊎◌, if◌then◌else◌}
use Rattle.ready_streams.specs.Order.{is_before}
use Rattle.ready_streams.specs.declared.round.Round.{Round}

-- the stream that is admitted in this turn, if any is
abbrev pub admitted : Round → Option ℕ
admitted r = if r.is_taken then Some r.last else None

-- the stream waits for its turn: it is the first of those that asked, or behind it
pub record Waits (r : Round) (token : ℕ) : Type 0 where
  pub first : ℕ
  pub asked : r.first ≡ Some first
  pub behind : (first ≡ token) ⊎ (is_before r.last first token ≡ true)
