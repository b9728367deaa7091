-- An edge of a compare keeps no word that wasn't there.
use Rattle.std.proofs.Common.{ℕ, ◌+◌, ◌-◌, ◌≤◌, Bool, true, false, min, max, Option, Some, None, IfSome, arith}
use Rattle.std.proofs.lemmas.Bool.{cond_both, eqb-true}
use Rattle.std.proofs.lemmas.Int.{ints}
use Rattle.std.specs.Bool.{beq}
use Rattle.std.specs.Option.{option_map}
use Rattle.std.specs.Prelude.{◌==◌, ◌&&◌, ◌||◌, not}
use Rattle.instruction_set.specs.declared.operation.Relation.{Relation}
use Rattle.instruction_set.specs.declared.operation.Relation.TheVariants.{Equal, Greater, GreaterOrEqual, AnyBitSet, NotEqual, SignedGreater, SignedGreaterOrEqual, Less, LessOrEqual, SignedLess, SignedLessOrEqual}
use Rattle.instruction_set.specs.declared.operation.Width.{Width}
use Rattle.program_meaning.specs.Word.{is_taken}
use Rattle.word_domain.specs.declared.bounds.Bounds.{Bounds}
use Rattle.interval_domain.specs.Edge.{FactPair, as_facts, at_most, different, edge_of, equal, exchanged, fits, is_empty, less, narrowed, refine_words, without}
use Rattle.interval_domain.specs.Fact.{IsFact, is_single, range}
use Rattle.interval_domain.specs.declared.fact.Fact.{Fact}
use Rattle.interval_domain.specs.declared.fact.Fact.TheVariants.{Words, Pointer}
use Rattle.address_domain.specs.Addresses.{both_narrowed, narrowed_to, words_of}
use Rattle.address_domain.proofs.WordFacts.{address_is}

-- no number between the second bounds isn't between the first
abbrev IsPart : Bounds → Bounds → Type 0
IsPart b c = (b.low ≤ c.low) × (c.high ≤ b.high)

whole : (b : Bounds) → IsPart b b
whole b = (omega arith, omega arith)

-- of both
abbrev AreParts : Bounds → Bounds → Option (Bounds × Bounds) → Type 0
AreParts d s o = IfSome o (λ both. IsPart d both.0 × IsPart s both.1)

edge_parts : (d s d' s' : Bounds) → IsPart d d' → IsPart s s' → AreParts d s (edge_of d' s')
edge_parts d s d' s' first second = cond_both (is_empty d' || is_empty s') None (Some (d', s')) (λ o. AreParts d s o) (λ _. tt) (λ _. (first, second))

equal_parts : (d s : Bounds) → AreParts d s (equal d s)
equal_parts d s =
    let both = range (max d.low s.low) (min d.high s.high) in
    edge_parts d s both both (omega arith, omega arith) (omega arith, omega arith)

without_part : (n : ℕ) (b : Bounds) → IsPart b (without n b)
without_part n b = (
  cond_both (b.low == n) (n + 1) b.low (λ low. b.low ≤ low) (λ e. let same = eqb-true b.low n e in omega (arith, same)) (λ _. omega arith),
  cond_both (b.high == n) (n - 1) b.high (λ high. high ≤ b.high) (λ e. let same = eqb-true b.high n e in omega (arith, same)) (λ _. omega arith),
)

different_parts : (d s : Bounds) → AreParts d s (different d s)
different_parts d s =
    cond_both (is_single s) _ _ (λ o. AreParts d s o)
    (λ _. edge_parts d s (without s.low d) s (without_part s.low d) (whole s))
    (λ _. cond_both (is_single d) _ _ (λ o. AreParts d s o)
    (λ _. edge_parts d s d (without d.low s) (whole d) (without_part d.low s))
    (λ _. (whole d, whole s)))

less_parts : (d s : Bounds) → AreParts d s (less d s)
less_parts d s =
    cond_both (s.high == 0) None _ (λ o. AreParts d s o)
    (λ _. tt)
    (λ _. edge_parts d s (range d.low (min d.high (s.high - 1))) (range (max s.low (d.low + 1)) s.high) (omega arith, omega arith)
    (omega arith, omega arith))

at_most_parts : (d s : Bounds) → AreParts d s (at_most d s)
at_most_parts d s =
    edge_parts d s (range d.low (min d.high s.high)) (range (max s.low d.low) s.high) (omega arith, omega arith) (omega arith, omega arith)

exchanged_parts : (d s : Bounds) (o : Option (Bounds × Bounds)) → AreParts s d o → AreParts d s (exchanged o)
exchanged_parts d s None are = tt
exchanged_parts d s (Some both) are = (are.1, are.0)

narrowed_parts : (relation : Relation) (taken : Bool) (d s : Bounds) → AreParts d s (narrowed relation taken d s)
narrowed_parts Equal true d s = equal_parts d s
narrowed_parts Equal false d s = different_parts d s
narrowed_parts NotEqual true d s = different_parts d s
narrowed_parts NotEqual false d s = equal_parts d s
narrowed_parts Less true d s = less_parts d s
narrowed_parts Less false d s = exchanged_parts d s (at_most s d) (at_most_parts s d)
narrowed_parts LessOrEqual true d s = at_most_parts d s
narrowed_parts LessOrEqual false d s = exchanged_parts d s (less s d) (less_parts s d)
narrowed_parts Greater true d s = exchanged_parts d s (less s d) (less_parts s d)
narrowed_parts Greater false d s = at_most_parts d s
narrowed_parts GreaterOrEqual true d s = exchanged_parts d s (at_most s d) (at_most_parts s d)
narrowed_parts GreaterOrEqual false d s = less_parts d s
narrowed_parts AnyBitSet taken d s = (whole d, whole s)
narrowed_parts SignedGreater taken d s = (whole d, whole s)
narrowed_parts SignedGreaterOrEqual taken d s = (whole d, whole s)
narrowed_parts SignedLess taken d s = (whole d, whole s)
narrowed_parts SignedLessOrEqual taken d s = (whole d, whole s)

-- ---- facts

-- the fact is about words, none of which isn't between the bounds
abbrev IsPartOf : Bounds → Fact → Type 0
IsPartOf b (Words c) = IsPart b c
IsPartOf b (Pointer area low high) = ⊥

abbrev pub ArePartsOf : Bounds → Bounds → Option (Fact × Fact) → Type 0
ArePartsOf d s o = IfSome o (λ both. IsPartOf d both.0 × IsPartOf s both.1)

as_facts_parts : (d s : Bounds) (o : Option (Bounds × Bounds)) → AreParts d s o → ArePartsOf d s (as_facts o)
as_facts_parts d s None are = tt
as_facts_parts d s (Some both) are = are

pub refine_parts : (width : Width) (relation : Relation) (taken : Bool) (d s : Bounds) (same : Bool)
    → ArePartsOf d s (refine_words width relation taken d s same)
refine_parts width relation taken d s same =
    cond_both (is_single d && is_single s) _ _ (λ o. ArePartsOf d s o)
    (λ _. cond_both (beq taken (is_taken width relation d.low s.low)) (Some (Words d, Words s)) None (λ o. ArePartsOf d s o)
    (λ _. (whole d, whole s)) (λ _. tt))
    (λ _. cond_both (same || not (fits width d) || not (fits width s)) (Some (Words d, Words s)) _ (λ o. ArePartsOf d s o)
    (λ _. (whole d, whole s))
    (λ _. as_facts_parts d s (narrowed relation taken d s) (narrowed_parts relation taken d s)))

narrowed_is : (f g : Fact) → IsFact f → IsFact g → IsPartOf (words_of f) g → IsFact (narrowed_to f g)
narrowed_is (Pointer area low high) (Words b) is order part =
    let least = address_is area low is.0 in
    let most = address_is area high (omega (arith, ints, is.0, is.1)) in (
      omega (arith, ints, least, is.0, part.0),
      omega (arith, ints, order),
      omega (arith, ints, most, is.2, part.1),
    )
narrowed_is (Pointer area low high) (Pointer area' low' high') is order part = absurd part
narrowed_is (Words b) g is order part = order

-- both stay facts
pub both_are : (d s : Fact) (o : Option (Fact × Fact)) → IsFact d → IsFact s → IfSome o FactPair → ArePartsOf (words_of d) (words_of s) o
    → IfSome (option_map (both_narrowed d s) o) FactPair
both_are d s None hd hs are parts = tt
both_are d s (Some both) hd hs are parts = (narrowed_is d both.0 hd are.0 parts.0, narrowed_is s both.1 hs are.1 parts.1)
