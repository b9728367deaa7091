-- The sizes that a logical block may have.
use Rattle.std.specs.Prelude.{ℕ, Bool, IsTrue, ◌==◌, Option, Some, None, if◌then◌else◌}
use Rattle.std.specs.List.{list_any}
use Rattle.program_interface.specs.declared.block_size.TheConstants.{BLOCK_SIZES}

-- is this number of bytes the size of a block? (profile)
abbrev pub is_block_size : ℕ → Bool
is_block_size bytes = list_any (λ size. size == bytes) BLOCK_SIZES

-- so many bytes are the size of a block
abbrev pub IsBlockSize : ℕ → Type 0
IsBlockSize bytes = IsTrue (is_block_size bytes)

-- the block size of so many bytes, if it is one
abbrev pub block_size : ℕ → Option ℕ
block_size bytes = if is_block_size bytes then Some bytes else None
