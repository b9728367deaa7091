-- Words that belong to two facts, and between which a relation holds, belong to what its edge keeps.
use Rattle.std.proofs.Common.{ℕ, ℤ, ◌≡◌, ◌≢◌, ◌+◌, ◌-◌, ◌^◌, ◌<◌, ◌≤◌, Bool, true, false, not, min, max, Option, Some, None, inl, inr, refl, subst, arith, sym}
use Rattle.std.proofs.Math.Nat.{mod-eq_of_lt}
use Rattle.std.proofs.lemmas.Bool.{cond_both, ltb-true, ltb-false, leb-true, leb-false, eqb-true, eqb-false, and_parts, or_cases, or_parts, not-true, not-false}
use Rattle.std.specs.Prelude.{◌==◌, ◌&&◌, ◌||◌}
use Rattle.std.specs.Bool.{beq}
use Rattle.std.specs.Cmp.{booleans_Decides}
use Rattle.instruction_set.specs.declared.operation.Relation.{Relation}
use Rattle.instruction_set.specs.declared.operation.Relation.TheVariants.{Equal, Greater, GreaterOrEqual, AnyBitSet, NotEqual, SignedGreater, SignedGreaterOrEqual, Less, LessOrEqual, SignedLess, SignedLessOrEqual}
use Rattle.instruction_set.specs.declared.operation.Width.{Width}
use Rattle.instruction_set.specs.declared.operation.Width.TheVariants.{Bits32, Bits64}
use Rattle.program_meaning.specs.Word.{is_taken, low_bits, relates, signed}
use Rattle.word_domain.specs.Domain.{BelongAfter}
use Rattle.interval_domain.specs.Edge.{as_facts, at_most, different, edge_of, equal, exchanged, fits, is_empty, less, narrowed, refine_of, refine_words, without}
use Rattle.interval_domain.specs.Fact.{ContainsWord, IsInBounds, is_single, range}
use Rattle.word_domain.specs.declared.bounds.Bounds.{Bounds}
use Rattle.interval_domain.specs.declared.fact.Fact.{Fact}
use Rattle.interval_domain.specs.declared.fact.Fact.TheVariants.{Words, Pointer}

-- both numbers are within what is kept
abbrev Keeps : ℕ → ℕ → Option (Bounds × Bounds) → Type 0
Keeps x y o = BelongAfter IsInBounds x y o

edge_law : (d s : Bounds) (x y : ℕ) → IsInBounds d x → IsInBounds s y → Keeps x y (edge_of d s)
edge_law d s x y hd hs =
    cond_both (is_empty d || is_empty s) None (Some (d, s)) (Keeps x y)
    (λ empty. elim (or_cases (is_empty d) (is_empty s) empty) [
      | inl first ↦ let e = ltb-true d.high d.low first in absurd (omega arith)
      | inr second ↦ let e = ltb-true s.high s.low second in absurd (omega arith)
    ])
    (λ _. (hd, hs))

equal_law : (d s : Bounds) (x y : ℕ) → IsInBounds d x → IsInBounds s y → x ≡ y → Keeps x y (equal d s)
equal_law d s x y hd hs same =
    let both = range (max d.low s.low) (min d.high s.high) in
    edge_law both both x y (omega arith, omega arith) (omega arith, omega arith)

without_law : (n : ℕ) (b : Bounds) (x : ℕ) → IsInBounds b x → x ≢ n → IsInBounds (without n b) x
without_law n b x within other = (
  cond_both (b.low == n) (n + 1) b.low (λ low. low ≤ x)
      (λ same. let e = eqb-true b.low n same in omega arith) (λ _. within.0),
  cond_both (b.high == n) (n - 1) b.high (λ high. x ≤ high)
      (λ same. let e = eqb-true b.high n same in omega arith) (λ _. within.1),
)

different_law : (d s : Bounds) (x y : ℕ) → IsInBounds d x → IsInBounds s y → x ≢ y → Keeps x y (different d s)
different_law d s x y hd hs other =
    cond_both (is_single s) _ _ (Keeps x y)
    (λ one.
    let e = eqb-true s.low s.high one in
    edge_law (without s.low d) s x y (without_law s.low d x hd (λ same. other (omega arith))) hs)
    (λ _. cond_both (is_single d) _ _ (Keeps x y)
    (λ one.
    let e = eqb-true d.low d.high one in
    edge_law d (without d.low s) x y hd (without_law d.low s y hs (λ same. other (omega arith))))
    (λ _. (hd, hs)))

less_law : (d s : Bounds) (x y : ℕ) → IsInBounds d x → IsInBounds s y → x < y → Keeps x y (less d s)
less_law d s x y hd hs below =
    cond_both (s.high == 0) _ _ (Keeps x y)
    (λ none. let e = eqb-true s.high 0 none in absurd (omega arith))
    (λ _. edge_law (range d.low (min d.high (s.high - 1))) (range (max s.low (d.low + 1)) s.high) x y
    (omega arith, omega arith) (omega arith, omega arith))

at_most_law : (d s : Bounds) (x y : ℕ) → IsInBounds d x → IsInBounds s y → x ≤ y → Keeps x y (at_most d s)
at_most_law d s x y hd hs below =
    edge_law (range d.low (min d.high s.high)) (range (max s.low d.low) s.high) x y
    (omega arith, omega arith) (omega arith, omega arith)

exchanged_law : (o : Option (Bounds × Bounds)) (x y : ℕ) → Keeps y x o → Keeps x y (exchanged o)
exchanged_law None x y kept = kept
exchanged_law (Some both) x y kept = (kept.1, kept.0)

narrowed_law : (relation : Relation) (taken : Bool) (d s : Bounds) (x y : ℕ) (a b : ℤ) → IsInBounds d x → IsInBounds s y
    → relates relation x y a b ≡ taken → Keeps x y (narrowed relation taken d s)
narrowed_law Equal true d s x y a b hd hs is = equal_law d s x y hd hs (eqb-true x y is)
narrowed_law Equal false d s x y a b hd hs is = different_law d s x y hd hs (eqb-false x y is)
narrowed_law NotEqual true d s x y a b hd hs is = different_law d s x y hd hs (eqb-false x y (not-true (x == y) is))
narrowed_law NotEqual false d s x y a b hd hs is = equal_law d s x y hd hs (eqb-true x y (not-false (x == y) is))
narrowed_law Less true d s x y a b hd hs is = less_law d s x y hd hs (ltb-true x y is)
narrowed_law Less false d s x y a b hd hs is = exchanged_law (at_most s d) x y (at_most_law s d y x hs hd (ltb-false x y is))
narrowed_law LessOrEqual true d s x y a b hd hs is = at_most_law d s x y hd hs (leb-true x y is)
narrowed_law LessOrEqual false d s x y a b hd hs is = exchanged_law (less s d) x y (less_law s d y x hs hd (leb-false x y is))
narrowed_law Greater true d s x y a b hd hs is = exchanged_law (less s d) x y (less_law s d y x hs hd (ltb-true y x is))
narrowed_law Greater false d s x y a b hd hs is = at_most_law d s x y hd hs (ltb-false y x is)
narrowed_law GreaterOrEqual true d s x y a b hd hs is = exchanged_law (at_most s d) x y (at_most_law s d y x hs hd (leb-true y x is))
narrowed_law GreaterOrEqual false d s x y a b hd hs is = less_law d s x y hd hs (leb-false y x is)
narrowed_law AnyBitSet taken d s x y a b hd hs is = (hd, hs)
narrowed_law SignedGreater taken d s x y a b hd hs is = (hd, hs)
narrowed_law SignedGreaterOrEqual taken d s x y a b hd hs is = (hd, hs)
narrowed_law SignedLess taken d s x y a b hd hs is = (hd, hs)
narrowed_law SignedLessOrEqual taken d s x y a b hd hs is = (hd, hs)

as_facts_law : (o : Option (Bounds × Bounds)) (x y : ℕ) → x < 2 ^ 64 → y < 2 ^ 64 → Keeps x y o
    → BelongAfter ContainsWord x y (as_facts o)
as_facts_law None x y fx fy kept = kept
as_facts_law (Some both) x y fx fy kept = ((kept.0, fx), (kept.1, fy))

low_is : (width : Width) (b : Bounds) (x : ℕ) → IsInBounds b x → fits width b ≡ true → low_bits width x ≡ x
low_is Bits32 b x within small = let e = ltb-true b.high (2 ^ 32) small in mod-eq_of_lt {n = x} {m = 2 ^ 32} (omega arith)
low_is Bits64 b x within small = refl

refine_words_law : (width : Width) (relation : Relation) (taken : Bool) (d s : Bounds) (same : Bool) (x y : ℕ)
    → ContainsWord (Words d) x → ContainsWord (Words s) y → is_taken width relation x y ≡ taken
    → BelongAfter ContainsWord x y (refine_words width relation taken d s same)
refine_words_law width relation taken d s same x y hd hs is =
    cond_both (is_single d && is_single s) _ _ (BelongAfter ContainsWord x y)
    (λ single.
    let both = and_parts (is_single d) (is_single s) single in
    let first = eqb-true d.low d.high both.0 in
    let second = eqb-true s.low s.high both.1 in
    let dst : x ≡ d.low = omega arith in
    let source : y ≡ s.low = omega arith in
    cond_both (beq taken (is_taken width relation d.low s.low)) _ _ (BelongAfter ContainsWord x y)
    (λ _. (hd, hs))
    (λ disagrees.
    let agree : beq taken (is_taken width relation d.low s.low) ≡ true =
    subst (λ n. beq taken (is_taken width relation d.low n) ≡ true) source
    (subst (λ n. beq taken (is_taken width relation n y) ≡ true) dst ((booleans_Decides taken (is_taken width relation x y)).1 (sym is))) in
    (cc)))
    (λ _. cond_both (same || not (fits width d) || not (fits width s)) _ _ (BelongAfter ContainsWord x y)
    (λ _. (hd, hs))
    (λ fit.
    let first = or_parts (same || not (fits width d)) (not (fits width s)) fit in
    let second = or_parts same (not (fits width d)) first.0 in
    let x_is = low_is width d x hd.0 (not-false (fits width d) second.1) in
    let y_is = low_is width s y hs.0 (not-false (fits width s) first.1) in
    let related : relates relation x y (signed width (low_bits width x)) (signed width (low_bits width y)) ≡ taken =
    subst (λ n. relates relation x n (signed width (low_bits width x)) (signed width (low_bits width y)) ≡ taken) y_is
    (subst (λ n. relates relation n (low_bits width y) (signed width (low_bits width x)) (signed width (low_bits width y)) ≡ taken) x_is is) in
    as_facts_law (narrowed relation taken d s) x y hd.1 hs.1
    (narrowed_law relation taken d s x y (signed width (low_bits width x)) (signed width (low_bits width y)) hd.0 hs.0 related)))

pub refine_law : (width : Width) (relation : Relation) (taken : Bool) (d s : Fact) (same : Bool) (x y : ℕ)
    → ContainsWord d x → ContainsWord s y → is_taken width relation x y ≡ taken
    → BelongAfter ContainsWord x y (refine_of width relation taken d s same)
refine_law width relation taken (Words d) (Words s) same x y hd hs is = refine_words_law width relation taken d s same x y hd hs is
refine_law width relation taken (Words d) (Pointer area low high) same x y hd hs is = (hd, hs)
refine_law width relation taken (Pointer area low high) (Words s) same x y hd hs is = (hd, hs)
refine_law width relation taken (Pointer area low high) (Pointer area' low' high') same x y hd hs is = (hd, hs)
