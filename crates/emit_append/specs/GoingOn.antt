-- How the packing of groups goes on from what is pending.
use Rattle.std.specs.Prelude.{◌≡◌, ℕ, List, ◌∷◌, ◌++◌}
use Rattle.emit_append.specs.Packing.{packed, pending_of, released}

-- what the packing of groups goes on to, from the bytes that are pending of those before
pub record GoesOn (block : ℕ) (before after : List (List ℕ)) : Type 0 where
  pub blocks : packed block (before ++ after) ≡ released block before ++ packed block (pending_of block before ∷ after)
  pub released_blocks : released block (before ++ after) ≡ released block before ++ released block (pending_of block before ∷ after)
  pub pending : pending_of block (before ++ after) ≡ pending_of block (pending_of block before ∷ after)

-- Packing goes on from the pending bytes as from a first group, after the blocks released.
abbrev pub PackingGoesOn : Type 0
PackingGoesOn = (block : ℕ) (before after : List (List ℕ)) → GoesOn block before after
