-- What output blocks are, whatever groups are packed: whole, and of bytes.
use Rattle.std.specs.Prelude.{◌≡◌, ℕ, ◌≤◌, List, length}
use Rattle.std.specs.List.{AllByRecursion}
use Rattle.common_definitions.specs.Bytes.{AreBytes}
use Rattle.emit_append.specs.PackedLaw.{FitBlock}
use Rattle.emit_append.specs.Packing.{packed, pending_of, released}

-- each of these blocks has the block size's bytes
abbrev pub AreWhole : ℕ → List (List ℕ) → Type 0
AreWhole block blocks = AllByRecursion (λ bytes. length bytes ≡ block) blocks

-- how long what groups come to is
pub record FillBlocks (block : ℕ) (groups : List (List ℕ)) : Type 0 where
  pub blocks : AreWhole block (packed block groups)
  pub released_blocks : AreWhole block (released block groups)
  pub pending : length (pending_of block groups) ≤ block

-- Output blocks are whole, where each group fits into one.
abbrev pub OutputBlocksAreWhole : Type 0
OutputBlocksAreWhole = (block : ℕ) (groups : List (List ℕ)) → FitBlock block groups → FillBlocks block groups

-- each of these lists is of bytes
abbrev pub AreAllBytes : List (List ℕ) → Type 0
AreAllBytes lists = AllByRecursion AreBytes lists

-- what groups come to holds bytes
pub record PackToBytes (block : ℕ) (groups : List (List ℕ)) : Type 0 where
  pub blocks : AreAllBytes (packed block groups)
  pub released_blocks : AreAllBytes (released block groups)
  pub pending : AreBytes (pending_of block groups)

-- Groups of bytes come to blocks of bytes.
abbrev pub OutputBlocksAreBytes : Type 0
OutputBlocksAreBytes = (block : ℕ) (groups : List (List ℕ)) → AreAllBytes groups → PackToBytes block groups
