-- What the packing of groups is, said of its blocks: the groups that have bytes stand in them whole and in order, at least
-- one in each, the rest of a block is zeros, and the next group is longer than that rest.
use Rattle.std.specs.Prelude.{◌≡◌, ◌↔◌, ℕ, ◌-◌, ◌≤◌, ◌<◌, Bool, true, false, List, [], ◌∷◌, length, map, filter}
use Rattle.std.specs.List.{AllByRecursion, concat, flat_map}
use Rattle.common_definitions.specs.Bytes.{padded}
use Rattle.emit_append.specs.Packing.{packed}

-- is a group not empty?
abbrev pub has_bytes : List ℕ → Bool
has_bytes [] = false
has_bytes (x ∷ xs) = true

-- groups without the empty ones, in order
abbrev pub without_empty : List (List ℕ) → List (List ℕ)
without_empty groups = filter has_bytes groups

-- the first group of the blocks that follow, if there is one, is longer than so much room
abbrev pub NextIsLonger : ℕ → List (List (List ℕ)) → Type 0
NextIsLonger room ((group ∷ groups) ∷ parts) = room < length group
NextIsLonger room _ = Unit {0}

-- behind each block the next one begins with a group that is longer than the room left in it
abbrev pub EachNextIsLonger : ℕ → List (List (List ℕ)) → Type 0
EachNextIsLonger block [] = Unit {0}
EachNextIsLonger block (part ∷ parts) = NextIsLonger (block - length (concat part)) parts × EachNextIsLonger block parts

-- blocks that these groups stand in, whole and in order, as is said above; parts: the groups of each block
pub record ArePacked (block : ℕ) (groups blocks : List (List ℕ)) : Type 0 where
  pub parts : List (List (List ℕ))
  pub whole_in_order : flat_map (λ part. part) parts ≡ without_empty groups
  pub at_least_one : AllByRecursion (λ part. 0 < length part) parts
  pub fits : AllByRecursion (λ part. length (concat part) ≤ block) parts
  pub next_is_longer : EachNextIsLonger block parts
  pub rest_is_zeros : blocks ≡ map (padded block) (map concat parts)

-- each of these groups fits into a block
abbrev pub FitBlock : ℕ → List (List ℕ) → Type 0
FitBlock block groups = AllByRecursion (λ group. length group ≤ block) groups

-- The packing of groups that each fit into a block is what is said above, and nothing else is.
abbrev pub PackedAsDescribed : Type 0
PackedAsDescribed =
    (block : ℕ) (groups blocks : List (List ℕ)) → FitBlock block groups →
    ArePacked block groups blocks ↔ (blocks ≡ packed block groups)
