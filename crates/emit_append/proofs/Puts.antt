-- Groups put one after another come to the packing of the whole list.
use Rattle.std.proofs.Common.{◌≡◌, ℕ, ◌+◌, ◌-◌, ◌<◌, ◌≤◌, List, [], ◌∷◌, ◌++◌, length, map, refl, ap, sym, ◌∙◌, arith}
use Rattle.std.proofs.lemmas.List.{append-nil}
use Rattle.common_definitions.specs.Bytes.{padded}
use Rattle.emit_append.specs.Packing.{block_fillings, packed, released, pending_of, all_but_last, last_or_empty}
use Rattle.emit_append.specs.Packer.{LendingIsFinishing, LendingIsPutting, PuttingIsPacking, after_put, after_puts, given_by_puts, new_packer}
use Rattle.emit_append.proofs.Continuing.{packing_goes_on}
use Rattle.emit_append.proofs.Layouts.{filled-empty, filled-first, laid-beginning, laid-behind}

-- a group with bytes, alone, fills one block
filled-one : (block x : ℕ) (xs : List ℕ) → block_fillings block ((x ∷ xs) ∷ []) ≡ (x ∷ xs) ∷ []
filled-one block x xs = filled-first block (x ∷ xs) [] (omega arith) ∙ simp append-nil

-- one group alone releases no block
pub one_group_releases_none : (block : ℕ) (group : List ℕ) → released block (group ∷ []) ≡ []
one_group_releases_none block [] = refl
one_group_releases_none block (x ∷ xs) = ap (λ bs. all_but_last (map (padded block) bs)) (filled-one block x xs)

pending-one : (block : ℕ) (group : List ℕ) → pending_of block (group ∷ []) ≡ group
pending-one block [] = refl
pending-one block (x ∷ xs) = ap last_or_empty (filled-one block x xs)

puts-released : (block : ℕ) (pending : List ℕ) (groups : List (List ℕ)) → given_by_puts (record { block = block; pending = pending }) groups ≡ released block (pending ∷ groups)
puts-released block pending [] = sym (one_group_releases_none block pending)
puts-released block pending (g ∷ gs) =
    ap (λ bs. released block (pending ∷ g ∷ []) ++ bs) (puts-released block (pending_of block (pending ∷ g ∷ [])) gs)
    ∙ sym (packing_goes_on block (pending ∷ g ∷ []) gs).released_blocks

puts-pending : (block : ℕ) (pending : List ℕ) (groups : List (List ℕ)) → after_puts (record { block = block; pending = pending }) groups ≡ record { block = block; pending = pending_of block (pending ∷ groups) }
puts-pending block pending [] = ap (λ bytes. record { block = block; pending = bytes }) (sym (pending-one block pending))
puts-pending block pending (g ∷ gs) =
    puts-pending block (pending_of block (pending ∷ g ∷ [])) gs
    ∙ ap (λ bytes. record { block = block; pending = bytes }) (sym (packing_goes_on block (pending ∷ g ∷ []) gs).pending)

pub putting_is_packing : PuttingIsPacking
putting_is_packing block groups =
    let given : given_by_puts (new_packer block) groups ≡ released block groups = puts-released block [] groups ∙ ap (λ bs. all_but_last (map (padded block) bs)) (filled-empty block groups) in
    let left : after_puts (new_packer block) groups ≡ record { block = block; pending = pending_of block groups } = puts-pending block [] groups ∙ ap (λ bs. record { block = block; pending = last_or_empty bs }) (filled-empty block groups) in
    let whole : packed block groups ≡ released block groups ++ packed block (pending_of block groups ∷ []) = ap (packed block) (sym (append-nil groups)) ∙ (packing_goes_on block groups []).blocks in
    record {
      blocks = given;
      pending = left;
      finished = rw (given, left) (sym whole);
    }

-- a group that has room behind what is pending fills one block with it
filled-room : (block x : ℕ) (xs group : List ℕ) → length (x ∷ xs) + length group ≤ block → block_fillings block ((x ∷ xs) ∷ group ∷ []) ≡ ((x ∷ xs) ++ group) ∷ []
filled-room block x xs group room =
    filled-first block (x ∷ xs) (group ∷ []) (omega arith)
    ∙ ap (λ rest. ((x ∷ xs) ++ rest.begun) ∷ rest.later) (laid-behind block (block - length (x ∷ xs)) group [] (omega (arith, room)))
    ∙ simp append-nil

-- one that has none begins the next block
filled-full : (block x : ℕ) (xs group : List ℕ) → length (x ∷ xs) ≤ block → block < length (x ∷ xs) + length group →
    block_fillings block ((x ∷ xs) ∷ group ∷ []) ≡ (x ∷ xs) ∷ group ∷ []
filled-full block x xs group fits full =
    filled-first block (x ∷ xs) (group ∷ []) (omega arith)
    ∙ ap (λ rest. ((x ∷ xs) ++ rest.begun) ∷ rest.later) (laid-beginning block (block - length (x ∷ xs)) group [] (omega (arith, fits, full)))
    ∙ simp append-nil

-- a packer of a new block, after one group
put-first : (block : ℕ) (group : List ℕ) → after_put (new_packer block) group ≡ record { block = block; pending = group }
put-first block group = ap (λ bs. record { block = block; pending = last_or_empty bs }) (filled-empty block (group ∷ [])) ∙ ap (λ bytes. record { block = block; pending = bytes }) (pending-one block group)

put-none : (block : ℕ) (pending group : List ℕ) → length pending + length group ≤ block → released block (pending ∷ group ∷ []) ≡ []
put-none block [] group room = ap (λ bs. all_but_last (map (padded block) bs)) (filled-empty block (group ∷ [])) ∙ one_group_releases_none block group
put-none block (x ∷ xs) group room = ap (λ bs. all_but_last (map (padded block) bs)) (filled-room block x xs group room)

put-behind : (block : ℕ) (pending group : List ℕ) → length pending + length group ≤ block → pending_of block (pending ∷ group ∷ []) ≡ pending ++ group
put-behind block [] group room = ap last_or_empty (filled-empty block (group ∷ [])) ∙ pending-one block group
put-behind block (x ∷ xs) group room = ap last_or_empty (filled-room block x xs group room)

put-block : (block : ℕ) (pending group : List ℕ) → length pending ≤ block → length group ≤ block → block < length pending + length group →
    released block (pending ∷ group ∷ []) ≡ padded block pending ∷ []
put-block block [] group fits whole full = absurd (omega (arith, whole, full))
put-block block (x ∷ xs) group fits whole full = ap (λ bs. all_but_last (map (padded block) bs)) (filled-full block x xs group fits full)

put-anew : (block : ℕ) (pending group : List ℕ) → length pending ≤ block → length group ≤ block → block < length pending + length group →
    pending_of block (pending ∷ group ∷ []) ≡ group
put-anew block [] group fits whole full = absurd (omega (arith, whole, full))
put-anew block (x ∷ xs) group fits whole full = ap last_or_empty (filled-full block x xs group fits full)

pub lending_is_putting : LendingIsPutting
lending_is_putting packer group fits whole = record {
  none = λ room. put-none packer.block packer.pending group room;
  behind = λ room. ap (λ bytes. record packer { pending = bytes }) (put-behind packer.block packer.pending group room);
  block = λ full. put-block packer.block packer.pending group fits whole full;
  anew = λ full. ap (λ bytes. record packer { pending = bytes }) (put-anew packer.block packer.pending group fits whole full) ∙ sym (put-first packer.block group);
}

finish-none : (block : ℕ) (pending : List ℕ) → length pending ≡ 0 → packed block (pending ∷ []) ≡ []
finish-none block [] empty = ap (map (padded block)) (filled-empty block [])
finish-none block (x ∷ xs) empty = absurd (omega (arith, empty))

finish-block : (block : ℕ) (pending : List ℕ) → 0 < length pending → packed block (pending ∷ []) ≡ padded block pending ∷ []
finish-block block [] some = absurd (omega (arith, some))
finish-block block (x ∷ xs) some = ap (map (padded block)) (filled-one block x xs)

pub lending_is_finishing : LendingIsFinishing
lending_is_finishing packer = record {
  none = finish-none packer.block packer.pending;
  block = finish-block packer.block packer.pending;
}
