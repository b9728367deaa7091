-- Lists of bytes, and of whole blocks of bytes.
use Rattle.std.proofs.Common.{◌≡◌, ℕ, suc, ◌<◌, List, [], ◌∷◌, length, get_or, arith}
use Rattle.std.specs.List.{AllByRecursion}
use Rattle.byteorder.specs.Endian.{little_bytes}
use Rattle.emit_append.specs.OutputBlocks.{AreAllBytes, AreWhole}
use Rattle.emit_append.proofs.Proved.{AllBytes, by_recursion}
use Rattle.std.proofs.lemmas.List.Elements.{All-from_recursion}
use Rattle.common_definitions.proofs.Proved.{low_first}
use Rattle.common_definitions.specs.Bytes.{AreBytes}

-- ---- bytes

pub little_are : (n x : ℕ) → AllBytes (little_bytes n x)
little_are n x = by_recursion (little_bytes n x) (low_first 0 n x)

-- ---- blocks

-- so many bytes
pub record IsBlock (block : ℕ) (bytes : List ℕ) : Type 0 where
  pub whole : length bytes ≡ block
  pub are : AreBytes bytes

abbrev pub AreBlocks : ℕ → List (List ℕ) → Type 0
AreBlocks block blocks = AllByRecursion (IsBlock block) blocks

pub both_blocks : (block : ℕ) (blocks : List (List ℕ)) → AreWhole block blocks → AreAllBytes blocks → AreBlocks block blocks
both_blocks block [] whole are = tt
both_blocks block (b ∷ bs) whole are = (record { whole = whole.0; are = are.0 }, both_blocks block bs whole.1 are.1)

-- the same by their places
pub blocks_by_place : (block : ℕ) (blocks : List (List ℕ)) → ((i : ℕ) → i < length blocks → length (get_or blocks i []) ≡ block)
    → ((i : ℕ) → AreBytes (get_or blocks i [])) → AreBlocks block blocks
blocks_by_place block [] whole are = tt
blocks_by_place block (b ∷ bs) whole are =
    (record { whole = whole 0 (omega arith); are = are 0 }, blocks_by_place block bs (λ i less. whole (suc i) (omega (arith, less))) (λ i. are (suc i)))

pub whole_at : (block : ℕ) (blocks : List (List ℕ)) → AreBlocks block blocks → (i : ℕ) → i < length blocks → length (get_or blocks i []) ≡ block
whole_at block blocks h i less = (All-from_recursion (IsBlock block) blocks h i [] less).whole
