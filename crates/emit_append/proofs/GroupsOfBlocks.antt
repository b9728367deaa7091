-- The packing of groups and its parts, the groups of each block.
use Rattle.std.proofs.Common.{◌≡◌, ℕ, ◌+◌, ◌-◌, ◌≤◌, ◌<◌, List, [], ◌∷◌, ◌++◌, length, map, refl, ap, subst, sym, ◌∙◌, arith, length-append, append_assoc, ⊎_elim}
use Rattle.std.specs.List.{AllByRecursion, concat, flat_map}
use Rattle.std.proofs.lemmas.List.{append-nil}
use Rattle.std.proofs.lemmas.Bool.{cases_lt}
use Rattle.common_definitions.specs.Bytes.{padded}
use Rattle.emit_append.specs.Packing.{Layout, behind, beginning, block_fillings, laid_out, packed}
use Rattle.emit_append.specs.PackedLaw.{ArePacked, EachNextIsLonger, FitBlock, NextIsLonger, PackedAsDescribed, without_empty}
use Rattle.emit_append.proofs.Layouts.{laid-behind, laid-beginning, laid-empty}

-- groups in front that fit the room go into it
laid-front : (block room : ℕ) (front rest : List (List ℕ)) (after : Layout) → length (concat front) ≤ room →
    laid_out block (room - length (concat front)) rest ≡ after →
    laid_out block room (front ++ rest) ≡ record { begun = concat front ++ after.begun; later = after.later }
laid-front block room [] rest after fits is = let left : room - 0 ≡ room = omega arith in rw left at is
laid-front block room (g ∷ gs) rest after fits is =
    let long : length g + length (concat gs) ≤ room = omega (arith, length-append g (concat gs)) in
    let room_left : room - length g - length (concat gs) ≡ room - length (g ++ concat gs) = omega (arith, length-append g (concat gs)) in
    let front : laid_out block (room - length g) (gs ++ rest) ≡ record { begun = concat gs ++ after.begun; later = after.later } = laid-front block (room - length g) gs rest after (omega arith) (rw room_left is) in
    laid-behind block room g (gs ++ rest) (omega arith) ∙ ap (behind g) front ∙ ap (λ bytes. record { begun = bytes; later = after.later }) (sym (append_assoc g (concat gs) after.begun))

-- parts, each begun by a group too long for the block before it, are the blocks
laid-parts : (block room : ℕ) (parts : List (List (List ℕ))) → NextIsLonger room parts →
    AllByRecursion (λ part. 0 < length part) parts → AllByRecursion (λ part. length (concat part) ≤ block) parts → EachNextIsLonger block parts →
    laid_out block room (flat_map (λ part. part) parts) ≡ record { begun = []; later = map concat parts }
laid-parts block room [] longer some fits each = refl
laid-parts block room ([] ∷ parts) longer some fits each = absurd (omega (arith, some.0))
laid-parts block room ((g ∷ gs) ∷ parts) longer some fits each =
    let whole = length-append g (concat gs) in
    let room_left : block - length (g ++ concat gs) ≡ block - length g - length (concat gs) = omega (arith, whole) in
    let after = laid-parts block (block - length (g ++ concat gs)) parts each.0 some.1 fits.1 each.1 in
    let front = laid-front block (block - length g) gs (flat_map (λ part. part) parts) (record { begun = []; later = map concat parts }) (omega (arith, fits.0, whole)) (rw (← room_left) after) in
    laid-beginning block room g (gs ++ flat_map (λ part. part) parts) longer ∙ ap (beginning g) front ∙ simp append-nil

-- some layout, with the groups that stand in the room and in each block
record Divided (block room : ℕ) (groups : List (List ℕ)) (layout : Layout) : Type 0 where
  front : List (List ℕ)
  parts : List (List (List ℕ))
  in_order : front ++ flat_map (λ part. part) parts ≡ groups
  is : layout ≡ record { begun = concat front; later = map concat parts }
  in_room : length (concat front) ≤ room
  some : AllByRecursion (λ part. 0 < length part) parts
  fits : AllByRecursion (λ part. length (concat part) ≤ block) parts
  longer : NextIsLonger (room - length (concat front)) parts
  each : EachNextIsLonger block parts

divided-behind : (block room : ℕ) (group : List ℕ) (groups : List (List ℕ)) (rest : Layout) → length group ≤ room →
    Divided block (room - length group) groups rest → Divided block room (group ∷ groups) (behind group rest)
divided-behind block room group groups rest fits d =
    let whole = length-append group (concat d.front) in
    let left : room - length group - length (concat d.front) ≡ room - length (group ++ concat d.front) = omega (arith, whole) in
    record {
      front = group ∷ d.front;
      parts = d.parts;
      in_order = ap (λ gs. group ∷ gs) d.in_order;
      is = ap (behind group) d.is;
      in_room = omega (arith, whole, d.in_room);
      some = d.some;
      fits = d.fits;
      longer = rw left at d.longer;
      each = d.each;
    }

divided-beginning : (block room : ℕ) (group : List ℕ) (groups : List (List ℕ)) (rest : Layout) → length group ≤ block → room < length group →
    Divided block (block - length group) groups rest → Divided block room (group ∷ groups) (beginning group rest)
divided-beginning block room group groups rest fits longer d =
    let whole = length-append group (concat d.front) in
    let left : block - length group - length (concat d.front) ≡ block - length (group ++ concat d.front) = omega (arith, whole) in
    let same : room - 0 ≡ room = omega arith in
    record {
      front = [];
      parts = (group ∷ d.front) ∷ d.parts;
      in_order = ap (λ gs. group ∷ gs) d.in_order;
      is = ap (beginning group) d.is;
      in_room = omega arith;
      some = (omega arith, d.some);
      fits = (omega (arith, whole, d.in_room), d.fits);
      longer = rw same longer;
      each = (rw left at d.longer, d.each);
    }

divided : (block room : ℕ) (groups : List (List ℕ)) → FitBlock block groups → Divided block room groups (laid_out block room groups)
divided block room [] fit = record { front = []; parts = []; in_order = refl; is = refl; in_room = omega arith; some = tt; fits = tt; longer = tt; each = tt }
divided block room (g ∷ gs) fit =
    ⊎_elim
    (λ large. rw (laid-beginning block room g gs large) (divided-beginning block room g gs _ fit.0 large (divided block (block - length g) gs fit.1)))
    (λ small. rw (laid-behind block room g gs small) (divided-behind block room g gs _ small (divided block (room - length g) gs fit.1)))
    (cases_lt room (length g))

-- groups of no bytes change nothing
laid-without_empty : (block room : ℕ) (groups : List (List ℕ)) → laid_out block room (without_empty groups) ≡ laid_out block room groups
laid-without_empty block room [] = refl
laid-without_empty block room ([] ∷ gs) = laid-without_empty block room gs ∙ sym (laid-empty block room gs)
laid-without_empty block room ((x ∷ xs) ∷ gs) =
    let behind_it = laid-without_empty block (room - length (x ∷ xs)) gs in
    let after_it = laid-without_empty block (block - length (x ∷ xs)) gs in
    cc

without_empty-fit : (block : ℕ) (groups : List (List ℕ)) → FitBlock block groups → FitBlock block (without_empty groups)
without_empty-fit block [] fit = tt
without_empty-fit block ([] ∷ gs) fit = without_empty-fit block gs fit.1
without_empty-fit block ((x ∷ xs) ∷ gs) fit = (fit.0, without_empty-fit block gs fit.1)

-- the first group with bytes has one
without_empty-first : (groups : List (List ℕ)) (group : List ℕ) (rest : List (List ℕ)) → group ∷ rest ≡ without_empty groups → 0 < length group
without_empty-first [] group rest is = cc
without_empty-first ([] ∷ gs) group rest is = without_empty-first gs group rest is
without_empty-first ((x ∷ xs) ∷ gs) group rest is = let first : group ≡ x ∷ xs = cc in rw first (omega arith)

first_is_longer : (parts : List (List (List ℕ))) (groups : List (List ℕ)) → flat_map (λ part. part) parts ≡ without_empty groups → NextIsLonger 0 parts
first_is_longer [] groups is = tt
first_is_longer ([] ∷ parts) groups is = tt
first_is_longer ((g ∷ gs) ∷ parts) groups is = without_empty-first groups g (gs ++ flat_map (λ part. part) parts) is

-- where there is no room, no group with bytes stands in it
none_in_front : (front rest groups : List (List ℕ)) → front ++ rest ≡ without_empty groups → length (concat front) ≤ 0 → front ≡ []
none_in_front [] rest groups is none = refl
none_in_front (g ∷ gs) rest groups is none = absurd (omega (arith, without_empty-first groups g (gs ++ rest) is, length-append g (concat gs)))

are_packed : (block : ℕ) (groups : List (List ℕ)) → Divided block 0 (without_empty groups) (laid_out block 0 (without_empty groups)) → ArePacked block groups (packed block groups)
are_packed block groups d =
    let none = none_in_front d.front (flat_map (λ part. part) d.parts) groups d.in_order d.in_room in
    record {
      parts = d.parts;
      whole_in_order = rw none at d.in_order;
      at_least_one = d.some;
      fits = d.fits;
      next_is_longer = d.each;
      rest_is_zeros = ap (λ l. map (padded block) l.later) (sym (laid-without_empty block 0 groups) ∙ d.is);
    }

-- parts of the groups with bytes, as said of packed blocks, are their blocks
packed_is : (block : ℕ) (groups blocks : List (List ℕ)) → ArePacked block groups blocks → blocks ≡ packed block groups
packed_is block groups blocks are =
    let longer = first_is_longer are.parts groups are.whole_in_order in
    let laid = laid-parts block 0 are.parts longer are.at_least_one are.fits are.next_is_longer in
    let same = ap (λ gs. laid_out block 0 gs) are.whole_in_order ∙ laid-without_empty block 0 groups in
    are.rest_is_zeros ∙ ap (λ l. map (padded block) l.later) (sym laid ∙ same)

pub packed_as_described : PackedAsDescribed
packed_as_described block groups blocks fit =
    (packed_is block groups blocks, λ is. rw is (are_packed block groups (divided block 0 (without_empty groups) (without_empty-fit block groups fit))))

-- what each part comes to fits into a block
parts_fit : (block : ℕ) (parts : List (List (List ℕ))) → AllByRecursion (λ part. length (concat part) ≤ block) parts → FitBlock block (map concat parts)
parts_fit block [] fits = tt
parts_fit block (part ∷ parts) fits = (fits.0, parts_fit block parts fits.1)

-- what groups fill of each block fits into it
pub filled_fits : (block : ℕ) (groups : List (List ℕ)) → FitBlock block groups → FitBlock block (block_fillings block groups)
filled_fits block groups fit =
    let d = divided block 0 groups fit in
    subst (λ (l : Layout). FitBlock block l.later) (sym d.is) (parts_fit block d.parts d.fits)
