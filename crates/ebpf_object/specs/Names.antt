-- String tables (gABI, chapter 4, String Table): names, each with a 0 behind it.
use Rattle.std.specs.Prelude.{ℕ, ◌-◌, ◌==◌, ◌&&◌, Bool, not, List, drop, length, slice_index}
use Rattle.std.specs.List.{before_first}

-- is the last byte 0, as that of a string table is?
abbrev pub is_ended : List ℕ → Bool
is_ended table = not (length table == 0) && slice_index table (length table - 1) == 0

-- the name that begins at this byte of a string table: what stands there before the next 0
abbrev pub name_in : List ℕ → ℕ → List ℕ
name_in table at = before_first (λ byte. byte == 0) (drop at table)
