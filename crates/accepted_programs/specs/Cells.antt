-- What is known of the stack: of each of its 64 cells, of which the j-th is the bytes 8j to 8j + 7, a fact about the
-- little-endian word that they are, or nothing (profile).
use Rattle.std.specs.Prelude.{ℕ, ℤ, pos, negsuc, suc, Bool, true, false, ◌+◌, ◌-◌, ◌*◌, ◌/◌, ◌%◌, ◌+ℤ◌, ◌-ℤ◌, ◌==◌, ◌&&◌, nat_lt, int_le, List, [], ◌∷◌, replicate, set, get_or, Option, Some, None, if◌then◌else◌}
use Rattle.std.specs.Ordering.{int_eq}
use Rattle.program_interface.specs.declared.area.Area.{Area}
use Rattle.program_interface.specs.declared.area.Area.TheVariants.{Stack}
use Rattle.program_interface.specs.declared.area.TheConstants.{STACK_BYTES}
use Rattle.word_domain.specs.declared.offsets.Offsets.{Offsets}
use Rattle.accepted_programs.specs.declared.facts.TheConstants.{CELL_BYTES, CELLS}

-- is the area the stack?
abbrev pub is_stack : Area → Bool
is_stack Stack = true
is_stack _ = false

-- the cell that the eight bytes from this distance on are
abbrev pub cell_from : ℤ → Option ℕ
cell_from (pos k) = if k % CELL_BYTES == 0 && nat_lt k STACK_BYTES then Some (k / CELL_BYTES) else None
cell_from (negsuc n) = None

-- the cell that the eight bytes at an offset are, where the address is known to be one alone, of the stack
abbrev pub cell_of : Option Offsets → ℤ → Option ℕ
cell_of (Some told) offset =
    if is_stack told.area && int_eq told.low told.high then cell_from (told.low +ℤ offset) else None
cell_of None offset = None

-- does a cell have a byte from one distance to another?
abbrev pub has_byte : ℕ → ℤ → ℤ → Bool
has_byte j first last = int_le first (pos (CELL_BYTES * j + (CELL_BYTES - 1))) && int_le (pos (CELL_BYTES * j)) last

module _ {D : Type 0} where
  -- nothing is known of the stack
  abbrev pub no_cells : List (Option D)
  no_cells = replicate CELLS None

  -- what is known in a cell, if it is one
  abbrev pub known_in : List (Option D) → Option ℕ → Option D
  known_in cells (Some j) = get_or cells j None
  known_in cells None = None

  -- the cells from the j-th on, those that have a byte from one distance to another forgotten
  abbrev pub forgotten : ℤ → ℤ → ℕ → List (Option D) → List (Option D)
  forgotten first last j [] = []
  forgotten first last j (cell ∷ cells) =
      (if has_byte j first last then None else cell) ∷ forgotten first last (suc j) cells

  -- after a store of so many bytes into the stack, through an address of which this is known
  abbrev pub overwritten : Option Offsets → ℤ → ℕ → List (Option D) → List (Option D)
  overwritten (Some told) offset size cells =
      if is_stack told.area
      then forgotten (told.low +ℤ offset) ((told.high +ℤ offset) +ℤ (pos size -ℤ pos 1)) 0 cells
      else no_cells
  overwritten None offset size cells = no_cells

  -- after a store that fills a cell with a fact, where there are both; else other cells
  abbrev pub filled : Option ℕ → Option D → List (Option D) → List (Option D) → List (Option D)
  filled (Some j) (Some d) cells others = set cells j (Some d)
  filled _ _ cells others = others

  -- what is known in a cell on both of two ways: nothing if either is, else the join
  abbrev pub join_cell : (D → D → D) → Option D → Option D → Option D
  join_cell join (Some d) (Some e) = Some (join d e)
  join_cell join _ _ = None

-- two rows, of registers or of cells, joined one by one
abbrev pub joined_each : {A : Type 0} → (A → A → A) → List A → List A → List A
joined_each join (x ∷ xs) (y ∷ ys) = join x y ∷ joined_each join xs ys
joined_each join _ _ = []
