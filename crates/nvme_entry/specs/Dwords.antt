-- The dwords of entries.
use Rattle.std.specs.Prelude.{ℕ, ◌*◌, List}
use Rattle.common_definitions.specs.Bytes.{field}

-- one of the dwords of an entry, by its number (NVMe Base 2.0, 3.3.3.1 and 3.3.3.2)
abbrev pub dword : List ℕ → ℕ → ℕ
dword entry number = field entry (4 * number) 4
