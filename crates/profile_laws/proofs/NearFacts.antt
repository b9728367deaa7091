-- Facts of the domain of addresses that tell at least as much as facts of the domain of intervals.
use Rattle.std.proofs.Common.{ℕ, ℤ, pos, ◌≡◌, ◌^◌, ◌≤◌, ◌+ℤ◌, ◌-ℤ◌, ◌∙◌, ◌⊎◌, inl, inr, true, Some, None, IsSome, refl, sym, subst, min, max, arith}
use Rattle.std.proofs.lemmas.Bool.{cond_both, eq-eqb}
use Rattle.std.proofs.lemmas.Int.{ints}
use Rattle.std.specs.Int.{int_max, int_min}
use Rattle.std.specs.Int.Signed.{pos-nat_abs, yes_non_neg}
use Rattle.std.specs.Prelude.{◌≤ℤ◌, ◌==◌, ◌&&◌, int_le, int_lt}
use Rattle.instruction_set.specs.declared.operation.Width.TheVariants.{Bits64}
use Rattle.program_interface.specs.Area.{address_of, length_of}
use Rattle.program_interface.specs.declared.area.Area.{Area}
use Rattle.program_interface.specs.declared.area.Area.TheVariants.{Context, Block, Stack, Scratch}
use Rattle.word_domain.specs.declared.bounds.Bounds.{Bounds}
use Rattle.address_domain.specs.Addresses.{address_at, addresses, pointer_or, words_of}
use Rattle.interval_domain.specs.Fact.{IsFact, area_accessed, bounds_of, farthest, full, join_of, offsets_of, range}
use Rattle.interval_domain.specs.declared.fact.Fact.{Fact}
use Rattle.interval_domain.specs.declared.fact.Fact.TheVariants.{Words, Pointer}
use Rattle.profile_laws.proofs.WordsNear.{IsPart}
use Rattle.profile_laws.proofs.Telling.{IsWithin, OffsetsWithin, are_at_most, both_at_most}

-- ---- addresses as words

-- an area's address is far from 0, and from the words with a sign
pub record IsFarIn (area : Area) : Type 0 where
  pub above : 2 ^ 32 ≤ address_of area
  pub below : address_of area ≤ 2 ^ 34

pub far_in : (area : Area) → IsFarIn area
far_in Context = record { above = omega arith; below = omega arith }
far_in Block = record { above = omega arith; below = omega arith }
far_in Stack = record { above = omega arith; below = omega arith }
far_in Scratch = record { above = omega arith; below = omega arith }

pub address_is : (area : Area) (distance : ℤ) → (pos 0 -ℤ farthest) ≤ℤ distance → pos (address_at area distance) ≡ (pos (address_of area) +ℤ distance)
address_is area distance near =
    let far = far_in area in
    pos-nat_abs (pos (address_of area) +ℤ distance) (yes_non_neg (omega (arith, ints, far, near)))

-- both ends of a pointer as words
pub record AreEnds (area : Area) (low high : ℤ) : Type 0 where
  pub least : pos (address_at area low) ≡ (pos (address_of area) +ℤ low)
  pub most : pos (address_at area high) ≡ (pos (address_of area) +ℤ high)

pub ends : (area : Area) (low high : ℤ) → IsFact (Pointer area low high) → AreEnds area low high
ends area low high is = record { least = address_is area low is.0; most = address_is area high (omega (arith, ints, is.0, is.1)) }

-- the words of a pointer, between bounds
pub pointer_part : (area : Area) (low high : ℤ) (c : Bounds) → IsFact (Pointer area low high) → c.low ≤ address_at area low → address_at area high ≤ c.high
    → IsPart Bits64 (words_of (Pointer area low high)) c
pointer_part area low high c is least most =
    let are = ends area low high is in
    let far = far_in area in
    record {
      ordered = omega (arith, ints, are.least, are.most, is.1);
      fits = omega (arith, ints, are.most, is.2, far.below);
      low = least;
      high = most;
    }

-- ---- near facts

-- of a pointer the first is one into the same area, with distances between its
abbrev pub IsInto : Fact → Fact → Type 0
IsInto d (Words c) = Unit {0}
IsInto (Words b) (Pointer area low high) = ⊥
IsInto (Pointer area low high) (Pointer area' low' high') = (area ≡ area') × (low' ≤ℤ low) × (high ≤ℤ high')

-- what a fact tells of each word, the first tells as well, where addresses are words too
pub record IsNear (d e : Fact) : Type 0 where
  pub fact : IsFact d
  pub part : IsPart Bits64 (words_of d) (bounds_of e)
  pub into : IsInto d e

pub near_wide : (d e : Fact) → IsNear d e → IsNear d (Words full)
near_wide d e near = record { fact = near.fact; part = grind arith; into = tt }

pub near_words : (b c : Bounds) → IsPart Bits64 b c → IsNear (Words b) (Words c)
near_words b c part = record { fact = part.ordered; part = part; into = tt }

pub pointer_full : (area : Area) (low high : ℤ) → IsFact (Pointer area low high) → IsPart Bits64 (words_of (Pointer area low high)) full
pointer_full area low high is =
    let part = pointer_part area low high (words_of (Pointer area low high)) is (omega arith) (omega arith) in
    grind arith

-- ---- answers

pub offsets_near : (d e : Fact) → IsNear d e → OffsetsWithin (offsets_of d) (offsets_of e)
offsets_near d (Words c) near = tt
offsets_near (Words b) (Pointer area low high) near = absurd near.into
offsets_near (Pointer area low high) (Pointer area' low' high') near =
    record { area = near.into.0; low = near.into.1; order = near.fact.1; high = near.into.2 }

pub access_near : (block : ℕ) (d e : Fact) (offset : ℤ) (size size' : ℕ) → IsNear d e → size ≤ size'
    → (area_accessed block e offset size' ≡ None)
    ⊎ (IsSome (offsets_of e) × (area_accessed block d offset size ≡ area_accessed block e offset size'))
access_near block d (Words c) offset size size' near less = inl refl
access_near block (Words b) (Pointer area low high) offset size size' near less = absurd near.into
access_near block (Pointer area low high) (Pointer area' low' high') offset size size' near less =
    let length = pos (length_of block area') in
    cond_both (int_le (pos 0) (low' +ℤ offset) && int_le ((high' +ℤ offset) +ℤ pos size') length) (Some area') None
    (λ o. (o ≡ None) ⊎ (IsSome (offsets_of (Pointer area' low' high')) × (area_accessed block (Pointer area low high) offset size ≡ o)))
    (λ known.
    let both = both_at_most (pos 0) (low' +ℤ offset) ((high' +ℤ offset) +ℤ pos size') length known in
    let fits = are_at_most (pos 0) (low +ℤ offset) ((high +ℤ offset) +ℤ pos size) length (omega (arith, ints, both.0, near.into.1))
    (omega (arith, ints, both.1, near.into.2, less)) in
    inr (refl, rw (near.into.0, fits) refl))
    (λ _. inl refl)

-- ---- joins

-- areas with one address are one
one_area : (area area' : Area) → (address_of area == address_of area') ≡ true → area ≡ area'
one_area Context Context one = refl
one_area Block Block one = refl
one_area Stack Stack one = refl
one_area Scratch Scratch one = refl
one_area area area' one = cc

hull_near : (b b' c : Bounds) → IsPart Bits64 b c → IsPart Bits64 b' c → IsNear (Words (range (min b.low b'.low) (max b.high b'.high))) (Words c)
hull_near b b' c first second = near_words (range (min b.low b'.low) (max b.high b'.high)) c (grind arith)

least_of : (area : Area) (low low' : ℤ) (n : ℕ) → n ≤ address_at area low → n ≤ address_at area low' → n ≤ address_at area (int_min low low')
least_of area low low' n first second = cond_both (int_lt low' low) low' low (λ least. n ≤ address_at area least) (λ _. second) (λ _. first)

most_of : (area : Area) (high high' : ℤ) (n : ℕ) → address_at area high ≤ n → address_at area high' ≤ n → address_at area (int_max high high') ≤ n
most_of area high high' n first second = cond_both (int_lt high' high) high high' (λ most. address_at area most ≤ n) (λ _. first) (λ _. second)

-- distances of both pointers, between those of one
both_between : (low high low' high' least most : ℤ) → (least ≤ℤ low) × (low ≤ℤ high) × (high ≤ℤ most)
    → (least ≤ℤ low') × (low' ≤ℤ high') × (high' ≤ℤ most)
    → (least ≤ℤ int_min low low') × (int_min low low' ≤ℤ int_max high high') × (int_max high high' ≤ℤ most)
both_between low high low' high' least most first second = grind (arith, ints)

-- distances between those of one of two pointers
one_between : (low high low' high' : ℤ) → (int_min low low' ≤ℤ low) × (int_min low low' ≤ℤ low') × (high ≤ℤ int_max high high') × (high' ≤ℤ int_max high high')
one_between low high low' high' = grind (arith, ints)

pub join_least : (d d' e : Fact) → IsNear d e → IsNear d' e → IsNear (addresses.join d d') e
join_least (Words b) d' (Pointer area least most) first second = absurd first.into
join_least d (Words b') (Pointer area least most) first second = absurd second.into
join_least (Pointer at low high) (Pointer at' low' high') (Pointer area least most) first second =
    let is = both_between low high low' high' (pos 0 -ℤ farthest) farthest first.fact second.fact in
    let inside = both_between low high low' high' least most (first.into.1, first.fact.1, first.into.2) (second.into.1, second.fact.1, second.into.2) in
    let same : (address_of at == address_of at') ≡ true = rw (first.into.0, second.into.0) (eq-eqb (address_of area) (address_of area) refl) in
    rw same
    (record {
      fact = is;
      part = pointer_full at (int_min low low') (int_max high high') is;
      into = (first.into.0, inside.0, inside.2);
    })
join_least (Pointer at low high) (Pointer at' low' high') (Words c) first second =
    let hull = range (min (address_at at low) (address_at at' low')) (max (address_at at high) (address_at at' high')) in
    cond_both (address_of at == address_of at') (Pointer at (int_min low low') (int_max high high')) (Words full)
    (λ f. IsNear (pointer_or f (Words hull)) (Words c))
    (λ one.
    let same = one_area at at' one in
    let is = both_between low high low' high' (pos 0 -ℤ farthest) farthest first.fact second.fact in
    record {
      fact = is;
      part = pointer_part at (int_min low low') (int_max high high') c is
          (least_of at low low' c.low first.part.low (subst (λ a. c.low ≤ address_at a low') (sym same) second.part.low))
          (most_of at high high' c.high first.part.high (subst (λ a. address_at a high' ≤ c.high) (sym same) second.part.high));
      into = tt;
    })
    (λ _. hull_near (words_of (Pointer at low high)) (words_of (Pointer at' low' high')) c first.part second.part)
join_least (Words b) (Words b') (Words c) first second = hull_near b b' c first.part second.part
join_least d d' (Words c) first second = hull_near (words_of d) (words_of d') c first.part second.part

-- what is told of a fact is told of its join with any other
pub near_more : (d : Fact) (c c' : Bounds) → IsNear d (Words c) → IsWithin c c' → IsNear d (Words c')
near_more d c c' near more = record { fact = near.fact; part = grind arith; into = tt }

near_into : (d : Fact) (area area' : Area) (low high low' high' : ℤ) → IsNear d (Pointer area low high) → area ≡ area' → low' ≤ℤ low → high ≤ℤ high'
    → IsNear d (Pointer area' low' high')
near_into (Words b) area area' low high low' high' near same first last = absurd near.into
near_into (Pointer at least most) area area' low high low' high' near same first last = record {
  fact = near.fact;
  part = near.part;
  into = (near.into.0 ∙ same, omega (arith, ints, first, near.into.1), omega (arith, ints, last, near.into.2));
}

pub join_first : (d e e' : Fact) → IsNear d e → IsNear d (join_of e e')
join_first d (Words c) (Words c') near = near_more d c (range (min c.low c'.low) (max c.high c'.high)) near (omega arith, omega arith)
join_first d (Pointer area low high) (Pointer area' low' high') near =
    let inside = one_between low high low' high' in
    cond_both (address_of area == address_of area') (Pointer area (int_min low low') (int_max high high')) (Words full) (λ f. IsNear d f)
    (λ _. near_into d area area low high (int_min low low') (int_max high high') near refl inside.0 inside.2)
    (λ _. near_wide d (Pointer area low high) near)
join_first d e e' near = near_wide d e near

pub join_second : (d e e' : Fact) → IsNear d e' → IsNear d (join_of e e')
join_second d (Words c) (Words c') near = near_more d c' (range (min c.low c'.low) (max c.high c'.high)) near (omega arith, omega arith)
join_second d (Pointer area low high) (Pointer area' low' high') near =
    let inside = one_between low high low' high' in
    cond_both (address_of area == address_of area') (Pointer area (int_min low low') (int_max high high')) (Words full) (λ f. IsNear d f)
    (λ one. near_into d area' area low' high' (int_min low low') (int_max high high') near (sym (one_area area area' one)) inside.1 inside.3)
    (λ _. near_wide d (Pointer area' low' high') near)
join_second d e e' near = near_wide d e' near
