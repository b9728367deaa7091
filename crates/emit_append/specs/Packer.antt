-- What a packer is seen as, and what putting a group into it gives, in the words of the packing.
use Rattle.std.specs.Prelude.{◌≡◌, ℕ, ◌+◌, ◌<◌, ◌≤◌, List, [], ◌∷◌, ◌++◌, length}
use Rattle.common_definitions.specs.Bytes.{padded}
use Rattle.program_interface.specs.declared.block_size.TheConstants.{LARGEST_BLOCK}
use Rattle.program_interface.specs.BlockSize.{IsBlockSize}
use Rattle.emit_append.specs.Packing.{packed, pending_of, released}

-- the size of its blocks, and the bytes of the block that it hasn't released yet
pub record PackerState : Type 0 where
  pub block : ℕ
  pub pending : List ℕ

-- a packer's blocks have a size that a block may have, no more bytes are pending than one has, and its array has room for the largest
pub record IsPacker (block pending : ℕ) (bytes : List ℕ) : Type 0 where
  pub size : IsBlockSize block
  pub fits : pending ≤ block
  pub whole : length bytes ≡ LARGEST_BLOCK

-- a packer of which nothing is pending
abbrev pub new_packer : ℕ → PackerState
new_packer block = record { block = block; pending = [] }

-- The pending bytes count as one group: what putting the next one gives is what the packing of both releases, and in the end the packing of the first.
abbrev pub given_by_put : PackerState → List ℕ → List (List ℕ)
given_by_put packer group = released packer.block (packer.pending ∷ group ∷ [])

-- what a packer is once a group is put
abbrev pub after_put : PackerState → List ℕ → PackerState
after_put packer group = record {
  block = packer.block;
  pending = pending_of packer.block (packer.pending ∷ group ∷ []);
}

-- the block that is left in the end, where something is pending
abbrev pub given_by_finish : PackerState → List (List ℕ)
given_by_finish packer = packed packer.block (packer.pending ∷ [])

-- the blocks that groups give, put one after another
abbrev pub given_by_puts : PackerState → List (List ℕ) → List (List ℕ)
given_by_puts packer [] = []
given_by_puts packer (group ∷ groups) = given_by_put packer group ++ given_by_puts (after_put packer group) groups

-- what a packer is once these groups are put, in order
abbrev pub after_puts : PackerState → List (List ℕ) → PackerState
after_puts packer [] = packer
after_puts packer (group ∷ groups) = after_puts (after_put packer group) groups

-- some groups put into a new packer, in order
pub record ArePutsOf (block : ℕ) (groups : List (List ℕ)) : Type 0 where
  -- they give all blocks of the groups but the last,
  pub blocks : given_by_puts (new_packer block) groups ≡ released block groups
  -- whose bytes are pending,
  pub pending : after_puts (new_packer block) groups ≡ record { block = block; pending = pending_of block groups }
  -- and finishing gives that one too
  pub finished : given_by_puts (new_packer block) groups ++ given_by_finish (after_puts (new_packer block) groups) ≡ packed block groups

-- Packing group by group gives the packing of the whole list.
abbrev pub PuttingIsPacking : Type 0
PuttingIsPacking = (block : ℕ) (groups : List (List ℕ)) → ArePutsOf block groups

-- what a caller does that asks for room first, and where there is none takes the pending block with its zeros and begins anew
pub record IsPutByLending (packer : PackerState) (group : List ℕ) : Type 0 where
  -- where there is room, no block is given, and the group stands behind what is pending;
  pub none : length packer.pending + length group ≤ packer.block → given_by_put packer group ≡ []
  pub behind : length packer.pending + length group ≤ packer.block → after_put packer group ≡ record packer { pending = packer.pending ++ group }
  -- else the pending block is given, and the group is put into an empty one
  pub block : packer.block < length packer.pending + length group → given_by_put packer group ≡ padded packer.block packer.pending ∷ []
  pub anew : packer.block < length packer.pending + length group → after_put packer group ≡ after_put (new_packer packer.block) group

-- Lending the pending block is putting, for a group that fits into a block.
abbrev pub LendingIsPutting : Type 0
LendingIsPutting = (packer : PackerState) (group : List ℕ) → length packer.pending ≤ packer.block → length group ≤ packer.block → IsPutByLending packer group

-- what is left to do in the end: nothing where nothing is pending, else to take the pending block
pub record IsFinishedByLending (packer : PackerState) : Type 0 where
  pub none : length packer.pending ≡ 0 → given_by_finish packer ≡ []
  pub block : 0 < length packer.pending → given_by_finish packer ≡ padded packer.block packer.pending ∷ []

-- Lending the pending block in the end, where there is one, is finishing.
abbrev pub LendingIsFinishing : Type 0
LendingIsFinishing = (packer : PackerState) → IsFinishedByLending packer
