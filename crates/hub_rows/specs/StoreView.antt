-- A store, as contracts see it.
use Rattle.std.specs.Prelude.{ℕ}
use Rattle.hub_rows.specs.Rows.{Rows}

pub record StoreView : Type 1 where
  -- the rows that it holds, each list in the order of its keys
  pub rows : Rows
  -- how often it has failed, a count that stays at 2^64 - 1 once it is there
  pub failures : ℕ
  -- its rows were written by this project alone, and are read as they were written
  pub clean : Type 0
  -- its rows were written by this project alone, whether they are still read or not
  pub sound : Type 0
  pub was_sound : clean → sound
  -- the rows that a reopening may find, were the work to stop now
  pub may_find : Rows → Type 0
