-- Packing goes on from what is pending.
use Rattle.std.proofs.Common.{◌≡◌, ℕ, ◌-◌, ◌<◌, List, [], ◌∷◌, ◌++◌, length, map, refl, ap, sym, ◌∙◌, arith, length-append, append_assoc, ⊎_elim}
use Rattle.std.proofs.lemmas.Bool.{cases_lt}
use Rattle.std.proofs.lemmas.List.{map-append}
use Rattle.std.specs.List.{AllByRecursion}
use Rattle.emit_append.specs.GoingOn.{PackingGoesOn}
use Rattle.common_definitions.specs.Bytes.{padded}
use Rattle.emit_append.specs.Packing.{Layout, behind, beginning, laid_out, block_fillings, packed, released, pending_of, all_but_last, last_or_empty}
use Rattle.emit_append.proofs.Layouts.{filled-first, laid-behind, laid-beginning, laid-empty}

-- the blocks begun, with more groups after them
abbrev extended : ℕ → List (List ℕ) → List (List ℕ) → List (List ℕ)
extended block [] after = block_fillings block after
extended block (x ∷ []) after = (beginning x (laid_out block (block - length x) after)).later
extended block (x ∷ y ∷ ys) after = x ∷ extended block (y ∷ ys) after

-- a layout, with more groups after it
abbrev continued : ℕ → ℕ → List ℕ → List (List ℕ) → List (List ℕ) → Layout
continued block room begun [] after = behind begun (laid_out block (room - length begun) after)
continued block room begun (x ∷ xs) after = record { begun = begun; later = extended block (x ∷ xs) after }

continued-behind : (block room : ℕ) (group begun : List ℕ) (later after : List (List ℕ)) →
    behind group (continued block (room - length group) begun later after) ≡ continued block room (group ++ begun) later after
continued-behind block room group begun [] after =
    let left : room - length group - length begun ≡ room - length (group ++ begun) = omega (arith, length-append group begun) in
    rw left (ap (λ bytes. record { begun = bytes; later = (laid_out block (room - length (group ++ begun)) after).later }) (sym (append_assoc group begun _)))
continued-behind block room group begun (x ∷ xs) after = refl

continued-beginning : (block room : ℕ) (group begun : List ℕ) (later after : List (List ℕ)) →
    beginning group (continued block (block - length group) begun later after) ≡ continued block room [] ((group ++ begun) ∷ later) after
continued-beginning block room group begun [] after =
    let left : block - length group - length begun ≡ block - length (group ++ begun) = omega (arith, length-append group begun) in
    rw left (ap (λ bytes. record { begun = []; later = bytes ∷ (laid_out block (block - length (group ++ begun)) after).later }) (sym (append_assoc group begun _)))
continued-beginning block room group begun (x ∷ xs) after = refl

laid-append : (block room : ℕ) (before after : List (List ℕ)) →
    laid_out block room (before ++ after) ≡ continued block room (laid_out block room before).begun (laid_out block room before).later after
laid-append block room [] after = let left : room - 0 ≡ room = omega arith in rw left refl
laid-append block room (g ∷ gs) after =
    ⊎_elim
    (λ large. laid-beginning block room g (gs ++ after) large ∙ ap (beginning g) (laid-append block (block - length g) gs after) ∙ continued-beginning block room g _ _ after
    ∙ ap (λ l. continued block room l.begun l.later after) (sym (laid-beginning block room g gs large)))
    (λ small. laid-behind block room g (gs ++ after) small ∙ ap (behind g) (laid-append block (room - length g) gs after) ∙ continued-behind block room g _ _ after
    ∙ ap (λ l. continued block room l.begun l.later after) (sym (laid-behind block room g gs small)))
    (cases_lt room (length g))

extended-later : (block : ℕ) (begun : List ℕ) (later after : List (List ℕ)) → (continued block 0 begun later after).later ≡ extended block later after
extended-later block begun [] after = let none : 0 - length begun ≡ 0 = omega arith in rw none refl
extended-later block begun (x ∷ xs) after = refl

filled-append : (block : ℕ) (before after : List (List ℕ)) → block_fillings block (before ++ after) ≡ extended block (block_fillings block before) after
filled-append block before after = ap (λ l. l.later) (laid-append block 0 before after) ∙ extended-later block (laid_out block 0 before).begun (laid_out block 0 before).later after

-- a block begun holds a byte
abbrev HoldBytes : List (List ℕ) → Type 0
HoldBytes blocks = AllByRecursion (λ bytes. 0 < length bytes) blocks

later-hold : (block room : ℕ) (groups : List (List ℕ)) → HoldBytes (laid_out block room groups).later
later-hold block room [] = tt
later-hold block room (g ∷ gs) =
    ⊎_elim
    (λ large. rw (laid-beginning block room g gs large) (omega (arith, length-append g (laid_out block (block - length g) gs).begun), later-hold block (block - length g) gs))
    (λ small. rw (laid-behind block room g gs small) (later-hold block (room - length g) gs))
    (cases_lt room (length g))

extended-is : (block : ℕ) (blocks after : List (List ℕ)) → HoldBytes blocks → extended block blocks after ≡ all_but_last blocks ++ block_fillings block (last_or_empty blocks ∷ after)
extended-is block [] after hold = ap (λ l. l.later) (sym (laid-empty block 0 after))
extended-is block (x ∷ []) after hold = sym (filled-first block x after hold.0)
extended-is block (x ∷ y ∷ ys) after hold = ap (λ bs. x ∷ bs) (extended-is block (y ∷ ys) after hold.1)

filled_goes_on : (block : ℕ) (before after : List (List ℕ)) → block_fillings block (before ++ after) ≡ all_but_last (block_fillings block before) ++ block_fillings block (pending_of block before ∷ after)
filled_goes_on block before after = filled-append block before after ∙ extended-is block (block_fillings block before) after (later-hold block 0 before)

map-all_but_last : (f : List ℕ → List ℕ) (xs : List (List ℕ)) → map f (all_but_last xs) ≡ all_but_last (map f xs)
map-all_but_last f [] = refl
map-all_but_last f (x ∷ []) = refl
map-all_but_last f (x ∷ y ∷ ys) = ap (λ bs. f x ∷ bs) (map-all_but_last f (y ∷ ys))

last-holds : (x : List ℕ) (xs : List (List ℕ)) → HoldBytes (x ∷ xs) → 0 < length (last_or_empty (x ∷ xs))
last-holds x [] hold = hold.0
last-holds x (y ∷ ys) hold = last-holds y ys hold.1

-- what goes on from a block begun begins with a block
goes_on_some : (block : ℕ) (blocks after : List (List ℕ)) → HoldBytes blocks → 0 < length blocks → 0 < length (block_fillings block (last_or_empty blocks ∷ after))
goes_on_some block [] after hold some = absurd (omega arith)
goes_on_some block (x ∷ xs) after hold some = rw (filled-first block (last_or_empty (x ∷ xs)) after (last-holds x xs hold)) (omega arith)

all_but_last-append : (xs : List (List ℕ)) (y : List ℕ) (ys : List (List ℕ)) → all_but_last (xs ++ y ∷ ys) ≡ xs ++ all_but_last (y ∷ ys)
all_but_last-append [] y ys = refl
all_but_last-append (x ∷ []) y ys = refl
all_but_last-append (x ∷ x' ∷ xs) y ys = ap (λ bs. x ∷ bs) (all_but_last-append (x' ∷ xs) y ys)

last-append : (xs : List (List ℕ)) (y : List ℕ) (ys : List (List ℕ)) → last_or_empty (xs ++ y ∷ ys) ≡ last_or_empty (y ∷ ys)
last-append [] y ys = refl
last-append (x ∷ []) y ys = refl
last-append (x ∷ x' ∷ xs) y ys = last-append (x' ∷ xs) y ys

all_but_last-goes_on : (xs ys : List (List ℕ)) → (0 < length xs → 0 < length ys) → all_but_last (all_but_last xs ++ ys) ≡ all_but_last xs ++ all_but_last ys
all_but_last-goes_on [] ys some = refl
all_but_last-goes_on (x ∷ xs) [] some = absurd (omega (arith, some (omega arith)))
all_but_last-goes_on (x ∷ xs) (y ∷ ys) some = all_but_last-append (all_but_last (x ∷ xs)) y ys

last-goes_on : (xs ys : List (List ℕ)) → (0 < length xs → 0 < length ys) → last_or_empty (all_but_last xs ++ ys) ≡ last_or_empty ys
last-goes_on [] ys some = refl
last-goes_on (x ∷ xs) [] some = absurd (omega (arith, some (omega arith)))
last-goes_on (x ∷ xs) (y ∷ ys) some = last-append (all_but_last (x ∷ xs)) y ys

module _ (block : ℕ) (before after : List (List ℕ)) where
  some_more : 0 < length (block_fillings block before) → 0 < length (block_fillings block (pending_of block before ∷ after))
  some_more some = goes_on_some block (block_fillings block before) after (later-hold block 0 before) some

  packed_goes_on : packed block (before ++ after) ≡ released block before ++ packed block (pending_of block before ∷ after)
  packed_goes_on =
      ap (map (padded block)) (filled_goes_on block before after)
      ∙ map-append (padded block) (all_but_last (block_fillings block before)) (block_fillings block (pending_of block before ∷ after))
      ∙ ap (λ bs. bs ++ packed block (pending_of block before ∷ after)) (map-all_but_last (padded block) (block_fillings block before))

  released_goes_on : released block (before ++ after) ≡ released block before ++ released block (pending_of block before ∷ after)
  released_goes_on =
      let rest = block_fillings block (pending_of block before ∷ after) in
      ap (λ bs. all_but_last (map (padded block) bs)) (filled_goes_on block before after)
      ∙ sym (map-all_but_last (padded block) (all_but_last (block_fillings block before) ++ rest))
      ∙ ap (map (padded block)) (all_but_last-goes_on (block_fillings block before) rest some_more)
      ∙ map-append (padded block) (all_but_last (block_fillings block before)) (all_but_last rest)
      ∙ ap (λ bs. bs ++ map (padded block) (all_but_last rest)) (map-all_but_last (padded block) (block_fillings block before))
      ∙ ap (λ bs. released block before ++ bs) (map-all_but_last (padded block) rest)

  pending_goes_on : pending_of block (before ++ after) ≡ pending_of block (pending_of block before ∷ after)
  pending_goes_on =
      ap last_or_empty (filled_goes_on block before after) ∙ last-goes_on (block_fillings block before) (block_fillings block (pending_of block before ∷ after)) some_more

pub packing_goes_on : PackingGoesOn
packing_goes_on block before after = record {
  blocks = packed_goes_on block before after;
  released_blocks = released_goes_on block before after;
  pending = pending_goes_on block before after;
}
