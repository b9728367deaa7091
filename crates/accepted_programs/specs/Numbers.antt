-- The cells that words of the stack are known by.
use Rattle.std.specs.Prelude.{◌≡◌}
use Rattle.accepted_programs.specs.declared.facts.TheConstants.{CELL_BYTES, CELLS}

-- the stack has 64 cells of 8 bytes each (profile)
pub record CellsAreWords : Type 0 where
  pub cell_bytes : CELL_BYTES ≡ 8
  pub cells : CELLS ≡ 64
