-- What an arithmetic instruction makes over addresses tells at least as much as over intervals.
use Rattle.std.proofs.Common.{ℕ, ℤ, suc, pos, negsuc, ◌≡◌, ◌+◌, ◌-◌, ◌^◌, ◌<◌, ◌≤◌, ◌+ℤ◌, ◌-ℤ◌, ◌⊎◌, inl, inr, Bool, true, false, refl, sym, ap, subst, add_comm, arith}
use Rattle.std.proofs.lemmas.Bool.Decides.{nat_tests}
use Rattle.std.proofs.lemmas.Bool.{and_right, cases_lt, cond-false, cond_both, eqb-true, le-ltb}
use Rattle.std.proofs.lemmas.Int.{ints, to_z_pos}
use Rattle.std.specs.Int.{cast_signed, w64}
use Rattle.std.specs.Prelude.{◌≤ℤ◌, ◌&&◌, ◌||◌, int_le, nat_le, nat_lt}
use Rattle.instruction_set.specs.declared.operation.Operation.TheVariants.{Add, Subtract, Move}
use Rattle.instruction_set.specs.declared.operation.SignExtension.TheVariants.{Bits8To32}
use Rattle.instruction_set.specs.declared.operation.Width.TheVariants.{Bits32, Bits64}
use Rattle.program_interface.specs.declared.area.Area.{Area}
use Rattle.program_meaning.specs.declared.word.Arithmetic.{Arithmetic}
use Rattle.program_meaning.specs.declared.word.Arithmetic.TheVariants.{Binary, MoveSigned}
use Rattle.word_domain.specs.declared.bounds.Bounds.{Bounds}
use Rattle.address_domain.specs.Addresses.{address_at, addresses, as_words, pointer_or, words_of}
use Rattle.interval_domain.specs.Arithmetic.{alu_of, difference_of, moved_back, moved_on, signed_bounds, sum_of}
use Rattle.interval_domain.specs.Fact.{IsFact, bounds_of, farthest, full, is_single, pointer_to, range, single}
use Rattle.interval_domain.specs.declared.fact.Fact.{Fact}
use Rattle.interval_domain.specs.declared.fact.Fact.TheVariants.{Words, Pointer}
use Rattle.profile_laws.proofs.NearFacts.{AreEnds, IsNear, ends, far_in, near_more, near_wide, near_words, pointer_full, pointer_part}
use Rattle.profile_laws.proofs.WordsNear.{IsPart, whole_part, made, made_part, words_made}
use Rattle.profile_laws.proofs.Telling.{IsWithin, are_at_most, both_at_most}

abbrev add : Arithmetic
add = Binary Bits64 Add

abbrev subtract : Arithmetic
subtract = Binary Bits64 Subtract

-- ---- signed words

-- words of one sign, within others, as signed numbers
record OneSign (b c : Bounds) : Type 0 where
  one : (nat_lt b.high (2 ^ 63) || nat_le (2 ^ 63) b.low) ≡ true
  low : cast_signed w64 c.low ≤ℤ cast_signed w64 b.low
  order : cast_signed w64 b.low ≤ℤ cast_signed w64 b.high
  high : cast_signed w64 b.high ≤ℤ cast_signed w64 c.high

signed_cases : (n : ℕ) → ((n < 2 ^ 63) × (cast_signed w64 n ≡ pos n)) ⊎ ((2 ^ 63 ≤ n) × (cast_signed w64 n ≡ negsuc (2 ^ 64 - suc n)))
signed_cases n = elim (cases_lt n (2 ^ 63)) [
  | inl positive ↦ inl (positive, to_z_pos w64 n positive)
  | inr negative ↦ inr (negative, rw (le-ltb n (2 ^ 63) negative) refl)
]

one_sign : (b c : Bounds) → IsPart Bits64 b c → (nat_lt c.high (2 ^ 63) || nat_le (2 ^ 63) c.low) ≡ true → OneSign b c
one_sign b c part one = grind (arith, ints, nat_tests, signed_cases c.low, signed_cases b.low, signed_cases b.high, signed_cases c.high)

-- both ends, as they are added to addresses
signed_ends : (b : Bounds) → IsPart Bits64 b b → (nat_lt b.high (2 ^ 63) || nat_le (2 ^ 63) b.low) ≡ true
    → ((cast_signed w64 b.low ≡ pos b.low) × (cast_signed w64 b.high ≡ pos b.high))
    ⊎ (((cast_signed w64 b.low +ℤ pos (2 ^ 64)) ≡ pos b.low) × ((cast_signed w64 b.high +ℤ pos (2 ^ 64)) ≡ pos b.high))
signed_ends b part one = grind (arith, ints, nat_tests, signed_cases b.low, signed_cases b.high)

-- ---- pointers that are moved

-- a pointer is one as long as it is within the farthest distances
near_enough : (area : Area) (l h : ℤ) (P : Fact → Type 0) → ((pos 0 -ℤ farthest) ≤ℤ l → h ≤ℤ farthest → P (Pointer area l h)) → P (Words full)
    → P (pointer_to area l h)
near_enough area l h P near far =
    cond_both (int_le (pos 0 -ℤ farthest) l && int_le h farthest) (Pointer area l h) (Words full) P
    (λ there. let both = both_at_most (pos 0 -ℤ farthest) l h farthest there in near both.0 both.1)
    (λ _. far)

module _ (area area' : Area) (low high low' high' : ℤ) (near : IsNear (Pointer area low high) (Pointer area' low' high')) (words : Fact) where
  moved_near : (l h l' h' : ℤ) → l' ≤ℤ l → l ≤ℤ h → h ≤ℤ h' → IsNear (pointer_or (pointer_to area l h) words) (Words full)
      → IsNear (pointer_or (pointer_to area l h) words) (pointer_to area' l' h')
  moved_near l h l' h' first order last fine =
      near_enough area' l' h' (λ f. IsNear (pointer_or (pointer_to area l h) words) f)
      (λ least most.
      let is : IsFact (Pointer area l h) = (omega (arith, ints, least, first), order, omega (arith, ints, most, last)) in
      rw (are_at_most (pos 0 -ℤ farthest) l h farthest is.0 is.2)
      (record { fact = is; part = pointer_full area l h is; into = (near.into.0, first, last) }))
      fine

  -- words among which is an address are too great to move another
  far : (at : Area) (first last : ℤ) (c : Bounds) → IsNear (Pointer at first last) (Words c)
      → (moved_on area' low' high' (signed_bounds c) ≡ Words full) × (moved_back area' low' high' (signed_bounds c) ≡ Words full)
  far at first last c inside =
      let are = ends at first last inside.fact in
      let at_is = far_in at in
      cond_both (nat_lt c.high (2 ^ 63) || nat_le (2 ^ 63) c.low) _ _
      (λ by. (moved_on area' low' high' by ≡ Words full) × (moved_back area' low' high' by ≡ Words full))
      (λ one.
      let least : c.low < 2 ^ 63 = omega (arith, ints, are.least, at_is.below, inside.fact.1, inside.fact.2, inside.part.low) in
      let positive : c.high < 2 ^ 63 = grind (arith, nat_tests) in
      let is = to_z_pos w64 c.high positive in
      let most : pos (2 ^ 31) ≤ℤ cast_signed w64 c.high = omega (arith, ints, is, are.most, at_is.above, inside.fact.0, inside.fact.1, inside.part.high) in (
        near_enough area' (low' +ℤ cast_signed w64 c.low) (high' +ℤ cast_signed w64 c.high) (λ f. f ≡ Words full)
            (λ near_low near_high. absurd (omega (arith, ints, most, near.fact.0, near.fact.1, near.into.2, near_high))) refl,
        near_enough area' (low' -ℤ cast_signed w64 c.high) (high' -ℤ cast_signed w64 c.low) (λ f. f ≡ Words full)
            (λ near_low near_high. absurd (omega (arith, ints, most, near.fact.1, near.fact.2, near.into.1, near_low))) refl,
      ))
      (λ _. (refl, refl))

  on_near : (s : Fact) (c : Bounds) → IsNear s (Words c) → IsNear (pointer_or (sum_of (Pointer area low high) s) words) (Words full)
      → IsNear (pointer_or (sum_of (Pointer area low high) s) words) (moved_on area' low' high' (signed_bounds c))
  on_near (Words b) c inside fine =
      cond_both (nat_lt c.high (2 ^ 63) || nat_le (2 ^ 63) c.low) _ _
      (λ by. IsNear (pointer_or (moved_on area low high (signed_bounds b)) words) (moved_on area' low' high' by))
      (λ one.
      let is = one_sign b c inside.part one in
      let moved = rw is.one at fine in
      rw is.one
      (moved_near (low +ℤ cast_signed w64 b.low) (high +ℤ cast_signed w64 b.high) (low' +ℤ cast_signed w64 c.low) (high' +ℤ cast_signed w64 c.high)
      (omega (arith, ints, near.into.1, is.low)) (omega (arith, ints, near.fact.1, is.order)) (omega (arith, ints, near.into.2, is.high)) moved))
      (λ _. fine)
  on_near (Pointer at first last) c inside fine = subst (λ f. IsNear words f) (sym (far at first last c inside).0) fine

  back_near : (s : Fact) (c : Bounds) → IsNear s (Words c) → IsNear (pointer_or (difference_of (Pointer area low high) s) words) (Words full)
      → IsNear (pointer_or (difference_of (Pointer area low high) s) words) (moved_back area' low' high' (signed_bounds c))
  back_near (Words b) c inside fine =
      cond_both (nat_lt c.high (2 ^ 63) || nat_le (2 ^ 63) c.low) _ _
      (λ by. IsNear (pointer_or (moved_back area low high (signed_bounds b)) words) (moved_back area' low' high' by))
      (λ one.
      let is = one_sign b c inside.part one in
      let moved = rw is.one at fine in
      rw is.one
      (moved_near (low -ℤ cast_signed w64 b.high) (high -ℤ cast_signed w64 b.low) (low' -ℤ cast_signed w64 c.high) (high' -ℤ cast_signed w64 c.low)
      (omega (arith, ints, near.into.1, is.high)) (omega (arith, ints, near.fact.1, is.order)) (omega (arith, ints, near.into.2, is.low)) moved))
      (λ _. fine)
  back_near (Pointer at first last) c inside fine = subst (λ f. IsNear words f) (sym (far at first last c inside).1) fine

-- ---- a pointer that is moved is what its words make

-- both ends, of which neither or each wraps
sum_within : (x x' r r' : ℕ) (b : Bounds) → IsPart Bits64 b b → r' < 2 ^ 64
    → ((r ≡ x + b.low) × (r' ≡ x' + b.high)) ⊎ ((r + 2 ^ 64 ≡ x + b.low) × (r' + 2 ^ 64 ≡ x' + b.high)) → r ≤ r' → x ≤ x'
    → IsWithin (range r r') (made add (range x x') b)
sum_within x x' r r' b part fits ends_are order order' =
    cond_both (is_single (range x x') && is_single b) _ _ (λ f. IsWithin (range r r') (bounds_of f))
    (λ one. (grind (arith, nat_tests), grind (arith, nat_tests))) (λ _. (grind (arith, nat_tests), grind (arith, nat_tests)))

difference_within : (x x' r r' : ℕ) (b : Bounds) → IsPart Bits64 b b → r' < 2 ^ 64
    → ((r + b.high ≡ x) × (r' + b.low ≡ x')) ⊎ ((r + b.high ≡ x + 2 ^ 64) × (r' + b.low ≡ x' + 2 ^ 64)) → r ≤ r' → x ≤ x'
    → IsWithin (range r r') (made subtract (range x x') b)
difference_within x x' r r' b part fits ends_are order order' =
    cond_both (is_single (range x x') && is_single b) _ _ (λ f. IsWithin (range r r') (bounds_of f))
    (λ one. (grind (arith, nat_tests), grind (arith, nat_tests))) (λ _. (grind (arith, nat_tests), grind (arith, nat_tests)))

module _ (area : Area) (low high : ℤ) (b : Bounds) (is : IsFact (Pointer area low high)) (part : IsPart Bits64 b b) where
  -- what is made of both as words tells at least as much
  told_by : (m : Bounds) (l h : ℤ) → IsPart Bits64 m m → l ≤ℤ h
      → (AreEnds area l h → IsPart Bits64 (words_of (Pointer area l h)) full → IsWithin (words_of (Pointer area l h)) m)
      → IsNear (pointer_or (pointer_to area l h) (Words m)) (Words m)
  told_by m l h whole order lies =
      near_enough area l h (λ f. IsNear (pointer_or f (Words m)) (Words m))
      (λ least most.
      let moved : IsFact (Pointer area l h) = (least, order, most) in
      let within = lies (ends area l h moved) (pointer_full area l h moved) in
      record { fact = moved; part = pointer_part area l h m moved within.0 within.1; into = tt })
      (near_words m m whole)

  on_told : (m : Bounds) → m ≡ made add (words_of (Pointer area low high)) b → IsPart Bits64 m m
      → IsNear (pointer_or (moved_on area low high (signed_bounds b)) (Words m)) (Words m)
  on_told m same whole =
      cond_both (nat_lt b.high (2 ^ 63) || nat_le (2 ^ 63) b.low) _ _ (λ by. IsNear (pointer_or (moved_on area low high by) (Words m)) (Words m))
      (λ one.
      let order = (one_sign b b part one).order in
      let are = ends area low high is in
      told_by m (low +ℤ cast_signed w64 b.low) (high +ℤ cast_signed w64 b.high) whole (omega (arith, ints, is.1, order))
      (λ at words.
      rw same
      (sum_within (address_at area low) (address_at area high) _ _ b part words.fits
      (elim (signed_ends b part one) [
        | inl signed ↦ inl (omega (arith, ints, signed.0, are.least, at.least), omega (arith, ints, signed.1, are.most, at.most))
        | inr signed ↦ inr (omega (arith, ints, signed.0, are.least, at.least), omega (arith, ints, signed.1, are.most, at.most))
      ])
      words.ordered (pointer_full area low high is).ordered)))
      (λ _. near_words m m whole)

  back_told : (m : Bounds) → m ≡ made subtract (words_of (Pointer area low high)) b → IsPart Bits64 m m
      → IsNear (pointer_or (moved_back area low high (signed_bounds b)) (Words m)) (Words m)
  back_told m same whole =
      cond_both (nat_lt b.high (2 ^ 63) || nat_le (2 ^ 63) b.low) _ _ (λ by. IsNear (pointer_or (moved_back area low high by) (Words m)) (Words m))
      (λ one.
      let order = (one_sign b b part one).order in
      let are = ends area low high is in
      told_by m (low -ℤ cast_signed w64 b.high) (high -ℤ cast_signed w64 b.low) whole (omega (arith, ints, is.1, order))
      (λ at words.
      rw same
      (difference_within (address_at area low) (address_at area high) _ _ b part words.fits
      (elim (signed_ends b part one) [
        | inl signed ↦ inl (omega (arith, ints, signed.1, are.least, at.least), omega (arith, ints, signed.0, are.most, at.most))
        | inr signed ↦ inr (omega (arith, ints, signed.1, are.least, at.least), omega (arith, ints, signed.0, are.most, at.most))
      ])
      words.ordered (pointer_full area low high is).ordered)))
      (λ _. near_words m m whole)

-- ---- sums and differences

-- a pointer is no single word
add_pointer : (d : Fact) (area : Area) (low high : ℤ) → alu_of add d (Pointer area low high) ≡ sum_of (Pointer area low high) d
add_pointer (Words b) area low high =
    cond-false (is_single b && is_single full) _ _ (and_right (is_single b) false refl)
add_pointer (Pointer area' low' high') area low high = refl

subtract_pointer : (d : Fact) (area : Area) (low high : ℤ) → alu_of subtract d (Pointer area low high) ≡ Words full
subtract_pointer (Words b) area low high =
    cond-false (is_single b && is_single full) _ _ (and_right (is_single b) false refl)
subtract_pointer (Pointer area' low' high') area low high = refl

whole : (a : Arithmetic) (d s : Fact) → IsNear d (Words full) → IsNear s (Words full)
    → IsPart Bits64 (made a (words_of d) (words_of s)) (made a (words_of d) (words_of s))
whole a d s first second = made_part a _ _ _ _ (whole_part (words_of d) full first.part) (whole_part (words_of s) full second.part)

-- what is made of both as words is told as well
abbrev IsTold : Arithmetic → Fact → Fact → Type 0
IsTold a d s = IsNear (pointer_or (alu_of a d s) (Words (made a (words_of d) (words_of s)))) (Words (made a (words_of d) (words_of s)))

words_are_told : (a : Arithmetic) (d s : Fact) (b : Bounds) → IsNear d (Words full) → IsNear s (Words full) → alu_of a d s ≡ Words b → IsTold a d s
words_are_told a d s b first second is = rw is (near_words _ _ (whole a d s first second))

and_turns : (x y : Bool) → (x && y) ≡ (y && x)
and_turns true true = refl
and_turns true false = refl
and_turns false true = refl
and_turns false false = refl

sum_turns : (p b : Bounds) → made add b p ≡ made add p b
sum_turns p b = rw (add_comm b.low p.low, add_comm b.high p.high, and_turns (is_single b) (is_single p)) refl

add_told : (d s : Fact) → IsNear d (Words full) → IsNear s (Words full) → IsTold add d s
add_told (Words b) (Words b') first second = words_are_told add (Words b) (Words b') (made add b b') first second (words_made add b b')
add_told (Pointer area low high) (Pointer area' low' high') first second =
    words_are_told add (Pointer area low high) (Pointer area' low' high') full first second refl
add_told (Pointer area low high) (Words b) first second =
    on_told area low high b first.fact (whole_part b full second.part) _ refl (whole add (Pointer area low high) (Words b) first second)
add_told (Words b) (Pointer area low high) first second =
    let m = made add b (words_of (Pointer area low high)) in
    subst (λ f. IsNear (pointer_or f (Words m)) (Words m)) (sym (add_pointer (Words b) area low high))
    (on_told area low high b second.fact (whole_part b full first.part) m (sum_turns (words_of (Pointer area low high)) b)
    (whole add (Words b) (Pointer area low high) first second))

subtract_told : (d s : Fact) → IsNear d (Words full) → IsNear s (Words full) → IsTold subtract d s
subtract_told (Words b) (Words b') first second = words_are_told subtract (Words b) (Words b') (made subtract b b') first second (words_made subtract b b')
subtract_told d (Pointer area low high) first second =
    words_are_told subtract d (Pointer area low high) full first second (subtract_pointer d area low high)
subtract_told (Pointer area low high) (Words b) first second =
    back_told area low high b first.fact (whole_part b full second.part) _ refl (whole subtract (Pointer area low high) (Words b) first second)

module _ (a : Arithmetic) (told : (d s : Fact) → IsNear d (Words full) → IsNear s (Words full) → IsTold a d s) where
  beside_words : (d s : Fact) (c c' : Bounds) → IsNear d (Words c) → IsNear s (Words c') → IsNear (addresses.alu a d s) (alu_of a (Words c) (Words c'))
  beside_words d s c c' first second =
      let made_is = words_made a (words_of d) (words_of s) in
      let more = made_part a (words_of d) c (words_of s) c' first.part second.part in
      subst (λ f. IsNear (addresses.alu a d s) f) (sym (words_made a c c'))
      (subst (λ f. IsNear (pointer_or (alu_of a d s) f) (Words (made a c c'))) (sym made_is)
      (near_more _ (made a (words_of d) (words_of s)) (made a c c') (told d s (near_wide d (Words c) first) (near_wide s (Words c') second))
      (more.low, more.high)))

  fine : (d e s t : Fact) → IsNear d e → IsNear s t → IsNear (addresses.alu a d s) (Words full)
  fine d e s t first second =
      near_wide (addresses.alu a d s) (alu_of a (Words full) (Words full))
      (beside_words d s full full (near_wide d e first) (near_wide s t second))

add_near : (d e s t : Fact) → IsNear d e → IsNear s t → IsNear (addresses.alu add d s) (alu_of add e t)
add_near d (Words c) s (Words c') first second = beside_words add add_told d s c c' first second
add_near (Words b) (Pointer area' low' high') s t first second = absurd first.into
add_near d e (Words b) (Pointer area' low' high') first second = absurd second.into
add_near d (Pointer area' low' high') s (Pointer area low high) first second = fine add add_told d (Pointer area' low' high') s (Pointer area low high) first second
add_near (Pointer area low high) (Pointer area' low' high') s (Words c') first second =
    on_near area area' low high low' high' first (alu_of add (as_words (Pointer area low high)) (as_words s)) s c' second
    (fine add add_told (Pointer area low high) (Pointer area' low' high') s (Words c') first second)
add_near d (Words c) (Pointer area low high) (Pointer area' low' high') first second =
    let words = alu_of add (as_words d) (as_words (Pointer area low high)) in
    let is = add_pointer d area low high in
    subst (λ f. IsNear (addresses.alu add d (Pointer area low high)) f) (sym (add_pointer (Words c) area' low' high'))
    (subst (λ g. IsNear (pointer_or g words) (sum_of (Pointer area' low' high') (Words c))) (sym is)
    (on_near area area' low high low' high' second words d c first
    (subst (λ g. IsNear (pointer_or g words) (Words full)) is
    (fine add add_told d (Words c) (Pointer area low high) (Pointer area' low' high') first second))))

subtract_near : (d e s t : Fact) → IsNear d e → IsNear s t → IsNear (addresses.alu subtract d s) (alu_of subtract e t)
subtract_near d (Words c) s (Words c') first second = beside_words subtract subtract_told d s c c' first second
subtract_near (Words b) (Pointer area' low' high') s t first second = absurd first.into
subtract_near (Pointer area low high) (Pointer area' low' high') s (Words c') first second =
    back_near area area' low high low' high' first (alu_of subtract (as_words (Pointer area low high)) (as_words s)) s c' second
    (fine subtract subtract_told (Pointer area low high) (Pointer area' low' high') s (Words c') first second)
subtract_near d e s (Pointer area low high) first second =
    subst (λ f. IsNear (addresses.alu subtract d s) f) (sym (subtract_pointer e area low high))
    (fine subtract subtract_told d e s (Pointer area low high) first second)

-- ---- moves, and what takes a pointer for any word

abbrev move : Arithmetic
move = Binary Bits64 Move

moved_is : (d s : Fact) → alu_of move d s ≡ s
moved_is d (Words b) =
    cond_both (is_single b) (Words (single b.low)) (Words b) (λ f. f ≡ Words b)
    (λ one. let same : b.low ≡ b.high = eqb-true b.low b.high one in ap (λ h. Words (range b.low h)) same) (λ _. refl)
moved_is d (Pointer area low high) = refl

kept_is : (s : Fact) → pointer_or s (as_words s) ≡ s
kept_is (Words b) = refl
kept_is (Pointer area low high) = refl

move_near : (d e s t : Fact) → IsNear s t → IsNear (addresses.alu move d s) (alu_of move e t)
move_near d e s t near =
    let is : addresses.alu move d s ≡ s = rw (moved_is d s, moved_is (as_words d) (as_words s)) (kept_is s) in
    rw (is, moved_is e t) near

-- all but sums, differences and moves of 64 bits
abbrev IsPlain : Arithmetic → Type 0
IsPlain (Binary Bits64 Add) = ⊥
IsPlain (Binary Bits64 Subtract) = ⊥
IsPlain (Binary Bits64 Move) = ⊥
IsPlain a = Unit {0}

plain_is : (a : Arithmetic) → IsPlain a → (d s : Fact) → alu_of a d s ≡ alu_of a (Words (bounds_of d)) (Words (bounds_of s))
plain_is (Binary Bits64 Add) plain d s = absurd plain
plain_is (Binary Bits64 Subtract) plain d s = absurd plain
plain_is (Binary Bits64 Move) plain d s = absurd plain
plain_is (Binary Bits32 Move) plain d s = refl
plain_is (Binary w operation) plain d s = refl
plain_is (MoveSigned Bits8To32) plain d s = refl
plain_is a plain d s = refl

plain_near : (a : Arithmetic) → IsPlain a → (d e s t : Fact) → IsNear d e → IsNear s t → IsNear (addresses.alu a d s) (alu_of a e t)
plain_near a plain d e s t first second =
    let words = λ (d s : Fact). subst (λ f. alu_of a d s ≡ f) (words_made a (bounds_of d) (bounds_of s)) (plain_is a plain d s) in
    let is : addresses.alu a d s ≡ Words (made a (words_of d) (words_of s)) =
    rw (words d s, words_made a (words_of d) (words_of s)) refl in
    rw (is, words e t)
    (near_words (made a (words_of d) (words_of s)) (made a (bounds_of e) (bounds_of t))
    (made_part a (words_of d) (bounds_of e) (words_of s) (bounds_of t) first.part second.part))

pub alu_near : (a : Arithmetic) (d e s t : Fact) → IsNear d e → IsNear s t → IsNear (addresses.alu a d s) (alu_of a e t)
alu_near (Binary Bits64 Add) d e s t first second = add_near d e s t first second
alu_near (Binary Bits64 Subtract) d e s t first second = subtract_near d e s t first second
alu_near (Binary Bits64 Move) d e s t first second = move_near d e s t second
alu_near (Binary w operation) d e s t first second = plain_near (Binary w operation) tt d e s t first second
alu_near a d e s t first second = plain_near a tt d e s t first second
