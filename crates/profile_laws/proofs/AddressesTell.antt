-- The domain of addresses tells at least as much as that of intervals.
use Rattle.std.proofs.Common.{ℕ, pos, ◌≡◌, ◌-◌, ◌^◌, ◌<◌, ◌≤◌, ◌-ℤ◌, Bool, true, false, cond, Option, Some, None, refl, sym, subst, arith}
use Rattle.std.proofs.lemmas.Bool.Decides.{nat_tests}
use Rattle.std.proofs.lemmas.Bool.{cond_both, or_parts}
use Rattle.std.proofs.lemmas.Int.{ints}
use Rattle.std.specs.Bool.{beq}
use Rattle.std.specs.Cmp.{booleans_Decides}
use Rattle.std.specs.Option.{option_map}
use Rattle.std.specs.Prelude.{◌&&◌, ◌||◌, is_some, nat_lt, not}
use Rattle.instruction_set.specs.declared.operation.Relation.{Relation}
use Rattle.instruction_set.specs.declared.operation.Relation.TheVariants.{Equal, Greater, GreaterOrEqual, NotEqual, Less, LessOrEqual}
use Rattle.instruction_set.specs.declared.operation.Width.{Width}
use Rattle.instruction_set.specs.declared.operation.Width.TheVariants.{Bits32, Bits64}
use Rattle.program_meaning.specs.Word.{is_taken}
use Rattle.program_interface.specs.Area.{address_of}
use Rattle.word_domain.specs.Domain.{BelongAfter, Belongs}
use Rattle.word_domain.specs.declared.bounds.Bounds.{Bounds}
use Rattle.interval_domain.proofs.Proved.{intervals_sound}
use Rattle.address_domain.specs.Addresses.{addresses, both_narrowed, narrowed_to, words_of}
use Rattle.interval_domain.specs.Edge.{as_facts, different, edge_of, fits, narrowed, refine_of, refine_words, without}
use Rattle.interval_domain.specs.Fact.{ContainsWord, IsFact, IsInBounds, bounds_of, full, is_single, range, farthest, loaded_of, pointer_to, single}
use Rattle.interval_domain.specs.declared.fact.Fact.{Fact}
use Rattle.interval_domain.specs.declared.fact.Fact.TheVariants.{Words, Pointer}
use Rattle.profile_laws.proofs.NearFacts.{IsNear, ends, pointer_part, access_near, join_first, join_least, join_second, near_wide, near_words, offsets_near, pointer_full}
use Rattle.profile_laws.proofs.WordsNear.{whole_part, IsPart, part_belongs}
use Rattle.profile_laws.proofs.Telling.{BothNear, TellsAsMuch, are_at_most}
use Rattle.instruction_set.specs.declared.operation.Size.{Size}
use Rattle.instruction_set.specs.declared.operation.Size.TheVariants.{Byte, HalfWord, Word, DoubleWord}
use Rattle.program_interface.specs.declared.area.Area.{Area}
use Rattle.interval_domain.specs.Intervals.{intervals}
use Rattle.profile_laws.proofs.PointersNear.{alu_near}

-- ---- bounds

abbrev dst_of : Option (Bounds × Bounds) → Bounds
dst_of None = full
dst_of (Some both) = both.0

abbrev source_of : Option (Bounds × Bounds) → Bounds
source_of None = full
source_of (Some both) = both.1

-- the first, which are parts of bounds, are parts of the second, which are there
record Narrows (d s : Bounds) (o o' : Option (Bounds × Bounds)) : Type 0 where
  there : is_some o' ≡ true
  dst : IsPart Bits64 (dst_of o) d
  source : IsPart Bits64 (source_of o) s
  dst_within : IsPart Bits64 (dst_of o) (dst_of o')
  source_within : IsPart Bits64 (source_of o) (source_of o')

one_word : (b c : Bounds) → IsPart Bits64 b c → is_single c ≡ true → (is_single b ≡ true) × (c.low ≡ b.low)
one_word b c part one = grind (arith, nat_tests)

edge_first : (n : ℕ) (d s e t : Bounds) → IsPart Bits64 d e → IsPart Bits64 s t → is_some (edge_of (without n d) s) ≡ true
    → Narrows d s (edge_of (without n d) s) (edge_of (without n e) t)
edge_first n d s e t first second some = grind (arith, nat_tests)

edge_second : (n : ℕ) (d s e t : Bounds) → IsPart Bits64 d e → IsPart Bits64 s t → is_some (edge_of d (without n s)) ≡ true
    → Narrows d s (edge_of d (without n s)) (edge_of e (without n t))
edge_second n d s e t first second some = grind (arith, nat_tests)

module _ (d s e t : Bounds) (first : IsPart Bits64 d e) (second : IsPart Bits64 s t) where
  whole : Narrows d s (Some (d, s)) (Some (e, t))
  whole = grind arith

  kept : (o o' : Option (Bounds × Bounds)) → Narrows d s o o' → Narrows d s o (Some (e, t))
  kept o o' narrows = grind arith

  different_kept : is_some (different d s) ≡ true → Narrows d s (different d s) (Some (e, t))
  different_kept =
      let dst = whole_part d e first in
      let source = whole_part s t second in
      cond_both (is_single s) _ _ (λ o. is_some o ≡ true → Narrows d s o (Some (e, t)))
      (λ _ some. kept (edge_of (without s.low d) s) (edge_of (without s.low d) s) (edge_first s.low d s d s dst source some))
      (λ _. cond_both (is_single d) _ _ (λ o. is_some o ≡ true → Narrows d s o (Some (e, t)))
      (λ _ some. kept (edge_of d (without d.low s)) (edge_of d (without d.low s)) (edge_second d.low d s d s dst source some))
      (λ _ _. whole))

  module _ (several : (is_single d && is_single s) ≡ false) where
    different_narrows : is_some (different d s) ≡ true → Narrows d s (different d s) (different e t)
    different_narrows some =
        cond_both (is_single t) _ _ (λ o. Narrows d s (different d s) o)
        (λ one.
        let is = one_word s t second one in
        let part : IsPart Bits64 s (range s.low t.high) = grind arith in
        let there : is_some (edge_of (without s.low d) s) ≡ true = rw is.0 at some in
        rw (is.0, is.1) (edge_first s.low d s e (range s.low t.high) first part there))
        (λ _. cond_both (is_single e) _ _ (λ o. Narrows d s (different d s) o)
        (λ one.
        let is = one_word d e first one in
        let other : is_single s ≡ false = grind (arith, nat_tests) in
        let part : IsPart Bits64 d (range d.low e.high) = grind arith in
        let there : is_some (edge_of d (without d.low s)) ≡ true = rw (other, is.0) at some in
        rw (other, is.0, is.1) (edge_second d.low d s (range d.low e.high) t part second there))
        (λ _. different_kept some))

    narrowed_narrows : (relation : Relation) (taken : Bool) → is_some (narrowed relation taken d s) ≡ true
        → Narrows d s (narrowed relation taken d s) (narrowed relation taken e t)
    narrowed_narrows Equal true some = grind (arith, nat_tests)
    narrowed_narrows Equal false some = different_narrows some
    narrowed_narrows NotEqual true some = different_narrows some
    narrowed_narrows NotEqual false some = grind (arith, nat_tests)
    narrowed_narrows Less true some = grind (arith, nat_tests)
    narrowed_narrows Less false some = grind (arith, nat_tests)
    narrowed_narrows LessOrEqual true some = grind (arith, nat_tests)
    narrowed_narrows LessOrEqual false some = grind (arith, nat_tests)
    narrowed_narrows Greater true some = grind (arith, nat_tests)
    narrowed_narrows Greater false some = grind (arith, nat_tests)
    narrowed_narrows GreaterOrEqual true some = grind (arith, nat_tests)
    narrowed_narrows GreaterOrEqual false some = grind (arith, nat_tests)
    narrowed_narrows relation taken some = whole

chosen : (one there wide : Bool) (o o' : Option (Bounds × Bounds))
    → cond one (cond there (as_facts o) None) (cond wide (as_facts o) (as_facts o')) ≡ as_facts (cond one (cond there o None) (cond wide o o'))
chosen true true wide o o' = refl
chosen true false wide o o' = refl
chosen false there true o o' = refl
chosen false there false o o' = refl

both_ones : (d s : Bounds) → (is_single d && is_single s) ≡ true → (is_single d ≡ true) × (is_single s ≡ true)
both_ones d s are = grind (arith, nat_tests)

still_several : (d s e t : Bounds) → IsPart Bits64 d e → IsPart Bits64 s t → (is_single d && is_single s) ≡ false → (is_single e && is_single t) ≡ false
still_several d s e t first second several = grind (arith, nat_tests)

fits_both : (d s e t : Bounds) → IsPart Bits64 d e → IsPart Bits64 s t → (not (nat_lt e.high (2 ^ 32)) || not (nat_lt t.high (2 ^ 32))) ≡ false
    → (not (nat_lt d.high (2 ^ 32)) || not (nat_lt s.high (2 ^ 32))) ≡ false
fits_both d s e t first second fit = grind (arith, nat_tests)

keeps_in : (w : Width) (same : Bool) (d s e t : Bounds) → IsPart Bits64 d e → IsPart Bits64 s t → (same || not (fits w e) || not (fits w t)) ≡ false
    → (same || not (fits w d) || not (fits w s)) ≡ false
keeps_in Bits64 same d s e t first second fit = fit
keeps_in Bits32 true d s e t first second fit = fit
keeps_in Bits32 false d s e t first second fit = fits_both d s e t first second fit

low_belongs : (b c : Bounds) → IsPart Bits64 b c → Belongs IsFact ContainsWord (Words c) b.low
low_belongs b c part = part_belongs b c b.low part (omega arith) part.ordered

one_part : (b c : Bounds) → is_single b ≡ true → b.high < 2 ^ 64 → IsInBounds c b.low → IsPart Bits64 b c
one_part b c one fits inside = grind (arith, nat_tests)

-- single words that belong behind an edge
belonging : (d s e t : Bounds) → IsPart Bits64 d e → IsPart Bits64 s t → is_single d ≡ true → is_single s ≡ true → (o : Option (Bounds × Bounds))
    → BelongAfter ContainsWord d.low s.low (as_facts o) → Narrows d s (Some (d, s)) o
belonging d s e t first second one other None belong = absurd belong
belonging d s e t first second one other (Some both) belong = record {
  there = refl;
  dst = whole_part d e first;
  source = whole_part s t second;
  dst_within = one_part d both.0 one first.fits belong.0.0;
  source_within = one_part s both.1 other second.fits belong.1.0;
}

module _ (w : Width) (relation : Relation) (taken same : Bool) where
  -- what an edge tells of the bounds of words
  abbrev told : Bounds → Bounds → Option (Bounds × Bounds)
  told d s =
      cond (is_single d && is_single s) (cond (beq taken (is_taken w relation d.low s.low)) (Some (d, s)) None)
      (cond (same || not (fits w d) || not (fits w s)) (Some (d, s)) (narrowed relation taken d s))

  told_is : (d s : Bounds) → refine_words w relation taken d s same ≡ as_facts (told d s)
  told_is d s =
      chosen (is_single d && is_single s) (beq taken (is_taken w relation d.low s.low)) (same || not (fits w d) || not (fits w s)) (Some (d, s))
      (narrowed relation taken d s)

  module _ (d s e t : Bounds) (first : IsPart Bits64 d e) (second : IsPart Bits64 s t) where
    -- two words that are known belong behind an edge that is there
    singles : (is_single d && is_single s) ≡ true → beq taken (is_taken w relation d.low s.low) ≡ true → Narrows d s (Some (d, s)) (told e t)
    singles are decided =
        let ones = both_ones d s are in
        cond_both (is_single e && is_single t) _ _ (λ o. Narrows d s (Some (d, s)) o)
        (λ single.
        let is = both_ones e t single in
        let dst = one_word d e first is.0 in
        let source = one_word s t second is.1 in
        let there : beq taken (is_taken w relation e.low t.low) ≡ true = rw (dst.1, source.1) decided in
        rw there (whole d s e t first second))
        (λ several. cond_both (same || not (fits w e) || not (fits w t)) _ _ (λ o. Narrows d s (Some (d, s)) o)
        (λ _. whole d s e t first second)
        (λ fit.
        let other : same ≡ false = (or_parts same (not (fits w e)) (or_parts (same || not (fits w e)) (not (fits w t)) fit).0).0 in
        belonging d s e t first second ones.0 ones.1 (narrowed relation taken e t)
        (subst (λ o. BelongAfter ContainsWord d.low s.low o) (rw (several, fit) refl)
        (intervals_sound.refine w relation taken (Words e) (Words t) same d.low s.low (low_belongs d e first) (low_belongs s t second)
        (λ one. cc) (sym ((booleans_Decides taken (is_taken w relation d.low s.low)).0 decided))))))

    told_narrows : is_some (told d s) ≡ true → Narrows d s (told d s) (told e t)
    told_narrows =
        cond_both (is_single d && is_single s) _ _ (λ o. is_some o ≡ true → Narrows d s o (told e t))
        (λ are. cond_both (beq taken (is_taken w relation d.low s.low)) (Some (d, s)) None (λ o. is_some o ≡ true → Narrows d s o (told e t))
        (λ decided _. singles are decided)
        (λ _ some. cc))
        (λ several.
        rw (still_several d s e t first second several)
        (cond_both (same || not (fits w e) || not (fits w t)) _ _
        (λ o'. is_some (cond (same || not (fits w d) || not (fits w s)) (Some (d, s)) (narrowed relation taken d s)) ≡ true
        → Narrows d s (cond (same || not (fits w d) || not (fits w s)) (Some (d, s)) (narrowed relation taken d s)) o')
        (λ _. cond_both (same || not (fits w d) || not (fits w s)) _ _ (λ o. is_some o ≡ true → Narrows d s o (Some (e, t)))
        (λ _ _. whole d s e t first second)
        (λ _ some.
        kept d s e t first second (narrowed relation taken d s) (narrowed relation taken e t)
        (narrowed_narrows d s e t first second several relation taken some)))
        (λ fit. rw (keeps_in w same d s e t first second fit) (narrowed_narrows d s e t first second several relation taken))))

-- ---- facts

narrowed_near : (d : Fact) (b c : Bounds) → IsFact d → IsPart Bits64 b (words_of d) → IsPart Bits64 b c → IsNear (narrowed_to d (Words b)) (Words c)
narrowed_near (Words a) b c is part inside = record { fact = inside.ordered; part = inside; into = tt }
narrowed_near (Pointer area low high) b c is part inside =
    let base = pos (address_of area) in
    let least = pos b.low -ℤ base in
    let most = pos b.high -ℤ base in
    let are = ends area low high is in
    let fact : IsFact (Pointer area least most) =
    (omega (arith, ints, are.least, part.low, is.0), omega (arith, ints, part.ordered), omega (arith, ints, are.most, part.high, is.2)) in
    let ends_are = ends area least most fact in
    record {
      fact = fact;
      part = pointer_part area least most c fact (omega (arith, ints, ends_are.least, inside.low)) (omega (arith, ints, ends_are.most, inside.high));
      into = tt;
    }

kept_near : (d e : Fact) (b : Bounds) → IsNear d e → IsPart Bits64 b (words_of d) → IsNear (narrowed_to d (Words b)) e
kept_near d (Words c) b near part = let wide = near.part in narrowed_near d b c near.fact part (grind arith)
kept_near (Words a) (Pointer area low high) b near part = absurd near.into
kept_near (Pointer at least most) (Pointer area low high) b near part =
    let narrow = narrowed_near (Pointer at least most) b full near.fact part (grind arith) in
    let are = ends at least most near.fact in
    record {
      fact = narrow.fact;
      part = narrow.part;
      into = (near.into.0, omega (arith, ints, are.least, part.low, near.into.1), omega (arith, ints, are.most, part.high, near.into.2));
    }

module _ (d e s t : Fact) (first : IsNear d e) (second : IsNear s t) where
  both_kept : (o o' : Option (Bounds × Bounds)) → (is_some o ≡ true → Narrows (words_of d) (words_of s) o o')
      → BothNear IsNear (option_map (both_narrowed d s) (as_facts o)) (Some (e, t))
  both_kept None o' narrows = tt
  both_kept (Some both) o' narrows =
      let are = narrows refl in
      (kept_near d e both.0 first are.dst, kept_near s t both.1 second are.source)

  both_near : (o o' : Option (Bounds × Bounds)) → (is_some o ≡ true → Narrows (words_of d) (words_of s) o o')
      → BothNear IsNear (option_map (both_narrowed d s) (as_facts o)) (as_facts o')
  both_near None o' narrows = tt
  both_near (Some both) None narrows = let are = narrows refl in let no : false ≡ true = are.there in cc
  both_near (Some both) (Some both') narrows =
      let are = narrows refl in
      (narrowed_near d both.0 both'.0 first.fact are.dst are.dst_within, narrowed_near s both.1 both'.1 second.fact are.source are.source_within)

module _ (w : Width) (relation : Relation) (taken : Bool) where
  kept_edge : (d e s t : Fact) (same : Bool) → IsNear d e → IsNear s t → BothNear IsNear (addresses.refine w relation taken d s same) (Some (e, t))
  kept_edge d e s t same first second =
      rw (told_is w relation taken same (words_of d) (words_of s))
      (both_kept d e s t first second (told w relation taken same (words_of d) (words_of s)) (told w relation taken same (bounds_of e) (bounds_of t))
      (told_narrows w relation taken same (words_of d) (words_of s) (bounds_of e) (bounds_of t) first.part second.part))

  pub refine_near : (d e s t : Fact) (same : Bool) → IsNear d e → IsNear s t
      → BothNear IsNear (addresses.refine w relation taken d s same) (refine_of w relation taken e t same)
  refine_near d (Words c) s (Words c') same first second =
      rw (told_is w relation taken same (words_of d) (words_of s), told_is w relation taken same c c')
      (both_near d (Words c) s (Words c') first second (told w relation taken same (words_of d) (words_of s)) (told w relation taken same c c')
      (told_narrows w relation taken same (words_of d) (words_of s) c c' first.part second.part))
  refine_near d e s t same first second = kept_edge d e s t same first second

words_near : (b : Bounds) → b.low ≤ b.high → b.high < 2 ^ 64 → IsNear (Words b) (Words b)
words_near b ordered fits = near_words b b (record { ordered = ordered; fits = fits; low = omega arith; high = omega arith })

loaded_near : (size : Size) → IsNear (loaded_of size) (loaded_of size)
loaded_near Byte = words_near (range 0 (2 ^ 8 - 1)) (omega arith) (omega arith)
loaded_near HalfWord = words_near (range 0 (2 ^ 16 - 1)) (omega arith) (omega arith)
loaded_near Word = words_near (range 0 (2 ^ 32 - 1)) (omega arith) (omega arith)
loaded_near DoubleWord = words_near full (omega arith) (omega arith)

pointer_near : (area : Area) (k : ℕ) → k < 2 ^ 20 → IsNear (pointer_to area (pos k) (pos k)) (pointer_to area (pos k) (pos k))
pointer_near area k small =
    let is : IsFact (Pointer area (pos k) (pos k)) = (omega (arith, ints), omega (arith, ints), omega (arith, ints, small)) in
    rw (are_at_most (pos 0 -ℤ farthest) (pos k) (pos k) farthest is.0 is.2)
    (record { fact = is; part = pointer_full area (pos k) (pos k) is; into = (refl, is.1, is.1) })

pub addresses_tell : TellsAsMuch IsNear addresses intervals
addresses_tell = record {
  constant = λ w fits. words_near (single w) (omega arith) fits;
  any = words_near full (omega arith) (omega arith);
  pointer = pointer_near;
  loaded = loaded_near;
  loaded_signed = λ size. words_near full (omega arith) (omega arith);
  first_whole = refl;
  second_whole = refl;
  wide = near_wide;
  join_least = join_least;
  join_first = join_first;
  join_second = join_second;
  alu = λ a d e s t first second. alu_near a d e s t first second;
  refine = λ width relation taken d e s t same first second. refine_near width relation taken d e s t same first second;
  access = access_near;
  bounds = λ d e near. (near.part.low, near.part.high);
  offsets = offsets_near;
  untracked = refl;
}
