-- The sizes that a run is granted.
use Rattle.std.specs.Prelude.{ℕ, ◌≤◌, nat_le, Option, Some, None, if◌then◌else◌}
use Rattle.program_interface.specs.BlockSize.{IsBlockSize}

-- the bytes of a block, and the most bytes of a group, which is what is emitted for a block (profile)
pub record Sizes : Type 0 where
  pub block : ℕ
  pub limit : ℕ

-- a block has one of its sizes, and a group fits it
pub record AreSizes (sizes : Sizes) : Type 0 where
  pub block_size : IsBlockSize sizes.block
  pub fits : sizes.limit ≤ sizes.block

-- the sizes of these numbers, if a group fits a block
abbrev pub sizes_with : ℕ → ℕ → Option Sizes
sizes_with block limit = if nat_le limit block then Some (record { block = block; limit = limit }) else None
