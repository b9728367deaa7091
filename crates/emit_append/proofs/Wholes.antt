-- Output blocks are whole, and hold bytes.
use Rattle.std.proofs.Common.{◌≡◌, ℕ, ◌-◌, ◌≤◌, List, [], ◌∷◌, length, map, replicate, arith, lit<, ⊎_elim}
use Rattle.std.specs.List.{AllByRecursion}
use Rattle.std.proofs.lemmas.Bool.{cases_lt}
use Rattle.common_definitions.specs.Bytes.{AreBytes, padded}
use Rattle.common_definitions.proofs.Proved.{all_append, all_same, length-padded}
use Rattle.emit_append.specs.OutputBlocks.{AreWhole, OutputBlocksAreBytes, OutputBlocksAreWhole}
use Rattle.emit_append.specs.PackedLaw.{FitBlock}
use Rattle.emit_append.specs.Packing.{all_but_last, block_fillings, laid_out, last_or_empty}
use Rattle.emit_append.proofs.ByteLists.{AllBytes, FitsByte, by_place, lists_by_place, lists_by_recursion}
use Rattle.emit_append.proofs.Layouts.{laid-behind, laid-beginning}
use Rattle.emit_append.proofs.GroupsOfBlocks.{filled_fits}

-- what holds of each in a list holds of all but the last, and of the last
module _ (P : List ℕ → Type 0) where
  but_last : (xs : List (List ℕ)) → AllByRecursion P xs → AllByRecursion P (all_but_last xs)
  but_last [] all = tt
  but_last (x ∷ []) all = tt
  but_last (x ∷ y ∷ ys) all = (all.0, but_last (y ∷ ys) all.1)

  of_last : (xs : List (List ℕ)) → P [] → AllByRecursion P xs → P (last_or_empty xs)
  of_last [] none all = none
  of_last (x ∷ []) none all = all.0
  of_last (x ∷ y ∷ ys) none all = of_last (y ∷ ys) none all.1

padded-whole : (block : ℕ) (blocks : List (List ℕ)) → FitBlock block blocks → AreWhole block (map (padded block) blocks)
padded-whole block [] fit = tt
padded-whole block (bytes ∷ blocks) fit = (length-padded block bytes fit.0, padded-whole block blocks fit.1)

pub output_blocks_are_whole : OutputBlocksAreWhole
output_blocks_are_whole block groups fit =
    let fits = filled_fits block groups fit in
    let whole = padded-whole block (block_fillings block groups) fits in
    record {
      blocks = whole;
      released_blocks = but_last (λ bytes. length bytes ≡ block) (map (padded block) (block_fillings block groups)) whole;
      pending = of_last (λ bytes. length bytes ≤ block) (block_fillings block groups) (omega arith) fits;
    }

padded-bytes : (block : ℕ) (blocks : List (List ℕ)) → AllByRecursion AllBytes blocks → AllByRecursion AllBytes (map (padded block) blocks)
padded-bytes block [] are = tt
padded-bytes block (bytes ∷ blocks) are =
    (all_append FitsByte bytes (replicate (block - length bytes) 0) are.0 (all_same FitsByte (block - length bytes) 0 (lit< tt)), padded-bytes block blocks are.1)

-- a layout's bytes are those of its groups
laid-bytes : (block room : ℕ) (groups : List (List ℕ)) → AllByRecursion AllBytes groups → AllBytes (laid_out block room groups).begun × AllByRecursion AllBytes (laid_out block room groups).later
laid-bytes block room [] are = (tt, tt)
laid-bytes block room (g ∷ gs) are =
    ⊎_elim
    (λ large.
    let rest = laid-bytes block (block - length g) gs are.1 in
    rw (laid-beginning block room g gs large) (tt, (all_append FitsByte g _ are.0 rest.0, rest.1)))
    (λ small.
    let rest = laid-bytes block (room - length g) gs are.1 in
    rw (laid-behind block room g gs small) (all_append FitsByte g _ are.0 rest.0, rest.1))
    (cases_lt room (length g))

pub output_blocks_are_bytes : OutputBlocksAreBytes
output_blocks_are_bytes block groups are =
    let filling = (laid-bytes block 0 groups (lists_by_recursion groups are)).1 in
    let blocks = map (padded block) (block_fillings block groups) in
    let whole = lists_by_place blocks (padded-bytes block (block_fillings block groups) filling) in
    record {
      blocks = whole;
      released_blocks = but_last AreBytes blocks whole;
      pending = by_place (last_or_empty (block_fillings block groups)) (of_last AllBytes (block_fillings block groups) tt filling);
    }
