-- Zone by zone, the descriptors that fit are put one behind the other.
use Rattle.std.proofs.Common.{◌≡◌, ℕ, suc, ◌+◌, ◌-◌, ◌*◌, ◌/◌, ◌≤◌, ◌<◌, Bool, true, cond, List, ◌∷◌, ◌++◌, length, take, drop, replicate, get_or, refl, ap, sym, ◌∙◌, arith, append_assoc, length-append, ⊎_elim}
use Rattle.std.specs.List.{enumerate_from, flat_map}
use Rattle.std.proofs.lemmas.Bool.{cases_lt}
use Rattle.std.proofs.lemmas.List.{take_at, drop_more, length-take, length-take-le}
use Rattle.zone_state.specs.Zone.{CountedZone}
use Rattle.common_definitions.specs.Bytes.{padded}
use Rattle.common_definitions.proofs.Proved.{length-flat_map-each, length-padded}
use Rattle.nvme_entry.specs.Filter.{lists}
use Rattle.nvme_entry.specs.declared.filter.ZoneFilter.{ZoneFilter}
use Rattle.nvme_entry.specs.Report.{descriptor, descriptor_at, report_header, listed, listed_zones}

pub length-descriptor : (zone : CountedZone) (lowest : ℕ) → length (descriptor zone lowest) ≡ 64
unfolding descriptor
length-descriptor zone lowest = refl

pub length-header : (number : ℕ) → length (report_header number) ≡ 64
unfolding report_header
length-header number = refl

-- what `listed` is, for pieces of 64 bytes of any kind
abbrev pub whole : {X : Type 0} → (X → List ℕ) → ℕ → List X → List ℕ
whole f n xs = padded n (flat_map f (take (n / 64) xs))

-- too little room for a piece holds none
whole-short : {X : Type 0} (f : X → List ℕ) (n : ℕ) (xs : List X) → n < 64 → whole f n xs ≡ replicate n 0
whole-short f n xs h =
    let none : n / 64 ≡ 0 = omega arith in
    let same : n - 0 ≡ n = omega arith in
    ap (λ (k : ℕ). padded n (flat_map f (take k xs))) none ∙ ap (λ (m : ℕ). replicate m 0) same

whole-more : {X : Type 0} (f : X → List ℕ) (n : ℕ) (x : X) (xs : List X) → length (f x) ≡ 64 → 64 ≤ n
    → whole f n (x ∷ xs) ≡ f x ++ whole f (n - 64) xs
whole-more f n x xs size h =
    let one : n / 64 ≡ suc ((n - 64) / 64) = omega arith in
    let pieces = flat_map f (take ((n - 64) / 64) xs) in
    let left : n - length (f x ++ pieces) ≡ n - 64 - length pieces = omega (arith, length-append (f x) pieces, size) in
    ap (λ (k : ℕ). padded n (flat_map f (take k (x ∷ xs)))) one
    ∙ (ap (λ (m : ℕ). (f x ++ pieces) ++ replicate m 0) left
    ∙ append_assoc (f x) pieces (replicate (n - 64 - length pieces) 0))

pub length-whole : {X : Type 0} (f : X → List ℕ) → ((x : X) → length (f x) ≡ 64) → (n : ℕ) (xs : List X) → length (whole f n xs) ≡ n
length-whole f each n xs =
    let shown = take (n / 64) xs in
    length-padded n (flat_map f shown) (omega (arith, length-flat_map-each f 64 shown (λ k d h. each (get_or shown k d)), length-take (n / 64) xs))

-- a piece put at a place, where it fits
pub piece-fits : (old piece rest : List ℕ) (at : ℕ) → at ≤ length old → length piece ≡ 64 → take (at + 64) (take at old ++ (piece ++ rest)) ≡ take at old ++ piece
piece-fits old piece rest at inside size =
    let long : length (take at old ++ piece) ≡ at + 64 = omega (arith, length-append (take at old) piece, length-take-le at old inside, size) in
    ap (take (at + 64)) (sym (append_assoc (take at old) piece rest)) ∙ take_at (take at old ++ piece) rest (at + 64) long

step-short : {X : Type 0} (f : X → List ℕ) (x : X) (xs : List X) (old new : List ℕ) (at place : ℕ) → length old < at + 64 → place ≡ at → new ≡ old
    → take place new ++ whole f (length new - place) xs ≡ take at old ++ whole f (length old - at) (x ∷ xs)
step-short f x xs old new at place short same_place same =
    let less : length old - at < 64 = omega arith in
    ap (λ (n : ℕ). take n new ++ whole f (length new - n) xs) same_place
    ∙ (ap (λ (ys : List ℕ). take at ys ++ whole f (length ys - at) xs) same
    ∙ ap (λ (ys : List ℕ). take at old ++ ys) (whole-short f (length old - at) xs less ∙ sym (whole-short f (length old - at) (x ∷ xs) less)))

step-fits : {X : Type 0} (f : X → List ℕ) (x : X) (xs : List X) (old new : List ℕ) (at place : ℕ) → length (f x) ≡ 64 → length new ≡ length old
    → at + 64 ≤ length old → place ≡ at + 64 → take place new ≡ take at old ++ f x
    → take place new ++ whole f (length new - place) xs ≡ take at old ++ whole f (length old - at) (x ∷ xs)
step-fits f x xs old new at place size same_length fits moved put =
    let enough : 64 ≤ length old - at = omega arith in
    let left : length new - place ≡ length old - at - 64 = omega arith in
    ap (λ (ys : List ℕ). ys ++ whole f (length new - place) xs) put
    ∙ (ap (λ (n : ℕ). (take at old ++ f x) ++ whole f n xs) left
    ∙ (append_assoc (take at old) (f x) (whole f (length old - at - 64) xs)
    ∙ ap (λ (ys : List ℕ). take at old ++ ys) (sym (whole-more f (length old - at) x xs size enough))))

-- one more piece: what stands up to the place and what is to come are together the same
step-more : {X : Type 0} (f : X → List ℕ) (x : X) (xs : List X) (old new : List ℕ) (at place : ℕ) → length (f x) ≡ 64 → length new ≡ length old
    → (at + 64 ≤ length old → (place ≡ at + 64) × (take place new ≡ take at old ++ f x))
    → (length old < at + 64 → (place ≡ at) × (new ≡ old))
    → take place new ++ whole f (length new - place) xs ≡ take at old ++ whole f (length old - at) (x ∷ xs)
step-more f x xs old new at place size same_length fits full =
    ⊎_elim
    (λ short. step-short f x xs old new at place short (full short).0 (full short).1)
    (λ enough. step-fits f x xs old new at place size same_length enough (fits enough).0 (fits enough).1)
    (cases_lt (length old) (at + 64))

cut : (zones : List CountedZone) (index : ℕ) (zone : CountedZone) → index < length zones → zone ≡ get_or zones index zone → drop index zones ≡ zone ∷ drop (index + 1) zones
cut zones index zone inside is = drop_more zones index zone inside ∙ ap (λ (z : CountedZone). z ∷ drop (index + 1) zones) (sym is)

-- a zone that the filter lists is the first of those that are left
listed_zones-next : (filter : ZoneFilter) (first index : ℕ) (zones : List CountedZone) (zone : CountedZone) → index < length zones → zone ≡ get_or zones index zone
    → lists filter zone.state ≡ true
    → listed_zones filter (enumerate_from (first + index) (drop index zones)) ≡ (first + index, zone) ∷ listed_zones filter (enumerate_from (first + (index + 1)) (drop (index + 1) zones))
listed_zones-next filter first index zones zone inside is tested =
    let behind = drop (index + 1) zones in
    let next : first + index + 1 ≡ first + (index + 1) = omega arith in
    ap (λ (zs : List CountedZone). listed_zones filter (enumerate_from (first + index) zs)) (cut zones index zone inside is)
    ∙ (ap (λ (b : Bool). cond b ((first + index, zone) ∷ listed_zones filter (enumerate_from (first + index + 1) behind)) (listed_zones filter (enumerate_from (first + index + 1) behind))) tested
    ∙ ap (λ (n : ℕ). (first + index, zone) ∷ listed_zones filter (enumerate_from n behind)) next)

-- so far: what the loop over the zones has found and put before one of them
pub record HasListed (filter : ZoneFilter) (first size : ℕ) (zones : List CountedZone) (start output : List ℕ) (index found at : ℕ) : Type 0 where
  pub inside : at ≤ length output
  pub few : found ≤ index
  pub number : found + length (listed_zones filter (enumerate_from (first + index) (drop index zones))) ≡ length (listed_zones filter (enumerate_from first zones))
  pub bytes : take at output ++ listed size (length output - at) (listed_zones filter (enumerate_from (first + index) (drop index zones))) ≡ listed size (length start) (listed_zones filter (enumerate_from first zones))

pub listed-next : (filter : ZoneFilter) (first size : ℕ) (zones : List CountedZone) (start output new : List ℕ) (index found at place lowest : ℕ) (zone : CountedZone)
    → index < length zones → zone ≡ get_or zones index zone → lists filter zone.state ≡ true
    → lowest ≡ (first + index) * size
    → place ≤ length new → length new ≡ length output
    → (at + 64 ≤ length output → (place ≡ at + 64) × (take place new ≡ take at output ++ descriptor zone lowest))
    → (length output < at + 64 → (place ≡ at) × (new ≡ output))
    → HasListed filter first size zones start output index found at → HasListed filter first size zones start new (index + 1) (found + 1) place
listed-next filter first size zones start output new index found at place lowest zone inside is tested is_lowest within same_length fits full has =
    let next = listed_zones-next filter first index zones zone inside is tested in
    let rest = listed_zones filter (enumerate_from (first + (index + 1)) (drop (index + 1) zones)) in
    let longer = ap (λ (zs : List (ℕ × CountedZone)). length zs) next in
    record {
      inside = within;
      few = omega (arith, has.few);
      number = omega (arith, has.number, longer);
      bytes =
          step-more (descriptor_at size) (first + index, zone) rest output new at place (length-descriptor zone ((first + index) * size)) same_length
          (λ h. ((fits h).0, (fits h).1 ∙ ap (λ (n : ℕ). take at output ++ descriptor zone n) is_lowest)) full
          ∙ (ap (λ (zs : List (ℕ × CountedZone)). take at output ++ listed size (length output - at) zs) (sym next) ∙ has.bytes);
    }
