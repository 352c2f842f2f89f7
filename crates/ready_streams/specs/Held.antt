-- What blocks hold.
use Rattle.std.specs.Prelude.{ℕ, ◌∷◌, List}
use Rattle.ready_streams.specs.Blocks.{joined}
use Rattle.ready_streams.specs.declared.blocks.Blocks.{Blocks}

-- the bytes of all blocks
abbrev pub held_in : Blocks → List ℕ
held_in blocks = joined (blocks.first ∷ blocks.later.items)
