-- How many blocks groups can come to (profile).
use Rattle.std.specs.Prelude.{ℕ, ◌≡◌, ◌≤◌, ◌+◌, ◌-◌, ◌/◌, ◌==◌, if◌then◌else◌, List, [], ◌∷◌, length}
use Rattle.std.specs.Int.{div_ceil}
use Rattle.std.specs.List.{AllByRecursion}
use Rattle.program_interface.specs.RunSizes.{Sizes}
use Rattle.emit_append.specs.Packing.{packed, pending_of, released}

-- enough blocks for so many groups of at most the limit's bytes: as if each were that long
abbrev pub need : ℕ → Sizes → ℕ
need groups sizes = if sizes.limit == 0 then 0 else div_ceil groups (sizes.block / sizes.limit)

-- No packing of groups within the limit, which is at most a block, needs more.
abbrev pub NeedIsEnough : Type 0
NeedIsEnough =
    (sizes : Sizes) (groups : List (List ℕ)) → sizes.limit ≤ sizes.block → AllByRecursion (λ group. length group ≤ sizes.limit) groups →
    length (packed sizes.block groups) ≤ need (length groups) sizes

-- so many groups within the limit that come to as many blocks as they can need
pub record ReachNeed (sizes : Sizes) (count : ℕ) (groups : List (List ℕ)) : Type 0 where
  pub number : length groups ≡ count
  pub within : AllByRecursion (λ group. length group ≤ sizes.limit) groups
  pub blocks : length (packed sizes.block groups) ≡ need count sizes

-- Some groups within the limit, which is at most a block, need as many: no fewer blocks are enough.
abbrev pub NeedIsMet : Type 0
NeedIsMet = (sizes : Sizes) (count : ℕ) → sizes.limit ≤ sizes.block → (groups : List (List ℕ)) × ReachNeed sizes count groups

-- More groups need no fewer blocks.
abbrev pub NeedGrows : Type 0
NeedGrows = (sizes : Sizes) (fewer more : ℕ) → fewer ≤ more → need fewer sizes ≤ need more sizes

-- ---- behind a block that is begun

-- enough blocks for so many groups of at most the limit's bytes behind so many bytes of a block: the block of these, if there are any, and
-- those for the groups that may not fit into the rest of it
abbrev pub need_behind : ℕ → ℕ → Sizes → ℕ
need_behind begun groups sizes = if begun == 0 then need groups sizes else 1 + need (groups - (sizes.block - begun) / sizes.limit) sizes

-- No packing of groups within the limit, which is at most a block, needs more behind bytes that count as a group.
abbrev pub NeedBehindIsEnough : Type 0
NeedBehindIsEnough =
    (sizes : Sizes) (begun : List ℕ) (groups : List (List ℕ)) → sizes.limit ≤ sizes.block → length begun ≤ sizes.block
    → AllByRecursion (λ group. length group ≤ sizes.limit) groups
    → length (packed sizes.block (begun ∷ groups)) ≤ need_behind (length begun) (length groups) sizes

-- More groups need no fewer blocks there.
abbrev pub NeedBehindGrows : Type 0
NeedBehindGrows =
    (sizes : Sizes) (begun fewer more : ℕ) → fewer ≤ more → need_behind begun fewer sizes ≤ need_behind begun more sizes

-- What a group releases, and what is enough behind what it leaves pending for one group fewer, was enough before it.
abbrev pub NeedBehindFalls : Type 0
NeedBehindFalls =
    (sizes : Sizes) (begun group : List ℕ) (later : ℕ) → sizes.limit ≤ sizes.block → length begun ≤ sizes.block → length group ≤ sizes.limit
    → length (released sizes.block (begun ∷ group ∷ [])) + need_behind (length (pending_of sizes.block (begun ∷ group ∷ []))) later sizes
    ≤ need_behind (length begun) (later + 1) sizes
