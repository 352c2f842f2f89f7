-- That what was written is on record.
use Rattle.std.specs.Prelude.{◌≡◌, ℕ, List, [], ◌++◌, Option, take}
use Rattle.hub_rows.specs.declared.store.Flush.{Flush}
use Rattle.hub_rows.specs.declared.store.Flush.TheVariants.{AtOnce, Later}
use Rattle.hub_rows.specs.Rows.{Rows}
use Rattle.hub.specs.World.{Setting, World}
use Rattle.replay.specs.Run.{AppendsFront, Falls, answers_to, world_after}

-- the rows after a number of the lines, the last of them whole; a prefix of what these are answered was written, and no more
pub record AreTold (st : Setting) (w : World) (lines : List (List ℕ)) (r : Rows) (old now : Option (List ℕ)) : Type 0 where
  pub taken : ℕ
  pub is : r ≡ (world_after st w (take taken lines)).rows
  pub told : AppendsFront old now (answers_to st w 1 (take taken lines))

-- of a text that waits, what may be written after a fault
abbrev pub pending : Flush → List ℕ → List ℕ
pending AtOnce text = text
pending Later text = []

-- the same from line k on, where a text waited before, and another may be written yet
pub record Tells (st : Setting) (w : World) (k : ℕ) (begin now : Option (List ℕ)) (text text' : List ℕ) (lines : List (List ℕ)) (r : Rows) : Type 0 where
  pub taken : ℕ
  pub is : r ≡ (world_after st w (take taken lines)).rows
  pub told : Falls begin now text' (text ++ answers_to st w k (take taken lines))
