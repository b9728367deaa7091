-- How groups of bytes stand in output blocks (profile): whole and in order, each in the block of the group before it where
-- it still fits, the rest of a block zeros.
use Rattle.std.specs.Prelude.{ℕ, ◌-◌, nat_le, List, [], ◌∷◌, ◌++◌, length, map, None, unwrap_or, if◌then◌else◌}
use Rattle.std.specs.List.{last_or}
use Rattle.common_definitions.specs.Bytes.{padded}

-- what groups add to a block begun, and the bytes of each block after it
pub record Layout : Type 0 where
  pub begun : List ℕ
  pub later : List (List ℕ)

-- a group in the block begun, before what is laid out after it
abbrev pub behind : List ℕ → Layout → Layout
behind group rest = record { begun = group ++ rest.begun; later = rest.later }

-- a group that begins a block, before what is laid out after it
abbrev pub beginning : List ℕ → Layout → Layout
beginning group rest = record { begun = []; later = (group ++ rest.begun) ∷ rest.later }

-- where groups go when so much room is left in the block begun; a group of no bytes always fits
abbrev pub laid_out : ℕ → ℕ → List (List ℕ) → Layout
laid_out block room [] = record { begun = []; later = [] }
laid_out block room (group ∷ groups) =
    if nat_le (length group) room then behind group (laid_out block (room - length group) groups)
    else beginning group (laid_out block (block - length group) groups)

-- the bytes that groups fill in each output block; no block is begun before the first of them
abbrev pub block_fillings : ℕ → List (List ℕ) → List (List ℕ)
block_fillings block groups = (laid_out block 0 groups).later

-- the output blocks of groups
abbrev pub packed : ℕ → List (List ℕ) → List (List ℕ)
packed block groups = map (padded block) (block_fillings block groups)

-- a list without its last element
abbrev pub all_but_last : List (List ℕ) → List (List ℕ)
all_but_last [] = []
all_but_last (x ∷ []) = []
all_but_last (x ∷ y ∷ ys) = x ∷ all_but_last (y ∷ ys)

-- the last, or no bytes
abbrev pub last_or_empty : List (List ℕ) → List ℕ
last_or_empty blocks = unwrap_or (last_or None blocks) []

-- all blocks but the last: a block stands after them, so that no later group can change them
abbrev pub released : ℕ → List (List ℕ) → List (List ℕ)
released block groups = all_but_last (packed block groups)

-- the bytes in the last block, where later groups may still go
abbrev pub pending_of : ℕ → List (List ℕ) → List ℕ
pending_of block groups = last_or_empty (block_fillings block groups)
