-- Blocks, as pieces of bytes.
use Rattle.std.specs.Prelude.{ℕ, ◌/◌, List, length}
use Rattle.common_definitions.specs.Bytes.{pieces}

-- how many whole blocks these bytes are
abbrev pub block_count : ℕ → List ℕ → ℕ
block_count block bytes = length bytes / block

-- these bytes as blocks, as many whole ones as they are
abbrev pub as_blocks : ℕ → List ℕ → List (List ℕ)
as_blocks block bytes = pieces block (block_count block bytes) bytes
