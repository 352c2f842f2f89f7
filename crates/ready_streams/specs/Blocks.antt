-- Bytes in blocks.
use Rattle.std.specs.Prelude.{ℕ, ◌<◌, ◌≤◌, List, All, length}
use Rattle.std.specs.List.{flat_map}
use Rattle.std.specs.declared.alloc.Global.{Global}
use Rattle.std.specs.declared.vec.Vec.{Vec}
use Rattle.ready_streams.specs.declared.blocks.TheConstants.{BLOCK_SIZE}

-- the bytes of the blocks, in order
abbrev pub joined : List (Vec ℕ Global) → List ℕ
joined blocks = flat_map (λ (block : Vec ℕ Global). block.items) blocks

-- a block has at most `BLOCK_SIZE` bytes
abbrev pub IsSmall : Vec ℕ Global → Type 0
IsSmall block = length block.items ≤ BLOCK_SIZE

-- each block has at most `BLOCK_SIZE` bytes
abbrev pub AreSmall : List (Vec ℕ Global) → Type 0
AreSmall blocks = All IsSmall blocks

-- a block has a byte
abbrev pub IsFilled : Vec ℕ Global → Type 0
IsFilled block = 0 < length block.items

-- each block has a byte
abbrev pub AreFilled : List (Vec ℕ Global) → Type 0
AreFilled blocks = All IsFilled blocks
