-- What an edge of a compare tells of its operands (profile).
use Rattle.std.specs.Prelude.{ℕ, Bool, true, false, Option, Some, None, ◌+◌, ◌-◌, ◌^◌, ◌==◌, ◌&&◌, ◌||◌, nat_lt, not, min, max, if◌then◌else◌}
use Rattle.std.specs.Bool.{beq}
use Rattle.std.specs.Option.{option_map}
use Rattle.instruction_set.specs.declared.operation.Relation.{Relation}
use Rattle.instruction_set.specs.declared.operation.Relation.TheVariants.{Equal, Greater, GreaterOrEqual, AnyBitSet, NotEqual, SignedGreater, SignedGreaterOrEqual, Less, LessOrEqual, SignedLess, SignedLessOrEqual}
use Rattle.instruction_set.specs.declared.operation.Width.{Width}
use Rattle.instruction_set.specs.declared.operation.Width.TheVariants.{Bits32, Bits64}
use Rattle.program_meaning.specs.Word.{is_taken}
use Rattle.interval_domain.specs.Fact.{IsFact, is_single, range}
use Rattle.word_domain.specs.declared.bounds.Bounds.{Bounds}
use Rattle.interval_domain.specs.declared.fact.Fact.{Fact}
use Rattle.interval_domain.specs.declared.fact.Fact.TheVariants.{Words}

-- both are facts
abbrev pub FactPair : Fact × Fact → Type 0
FactPair both = IsFact both.0 × IsFact both.1

-- is no number between these bounds?
abbrev pub is_empty : Bounds → Bool
is_empty b = nat_lt b.high b.low

-- an edge along which one of the two can be no number doesn't exist
abbrev pub edge_of : Bounds → Bounds → Option (Bounds × Bounds)
edge_of d s = if is_empty d || is_empty s then None else Some (d, s)

-- destination = source
abbrev pub equal : Bounds → Bounds → Option (Bounds × Bounds)
equal d s =
    let both = range (max d.low s.low) (min d.high s.high) in
    edge_of both both

-- bounds without a number, where it is one of the two
abbrev pub without : ℕ → Bounds → Bounds
without n b = range (if b.low == n then n + 1 else b.low) (if b.high == n then n - 1 else b.high)

-- destination not = source
abbrev pub different : Bounds → Bounds → Option (Bounds × Bounds)
different d s =
    if is_single s then edge_of (without s.low d) s else
    if is_single d then edge_of d (without d.low s) else
    Some (d, s)

-- destination < source; below 0 there is no number
abbrev pub less : Bounds → Bounds → Option (Bounds × Bounds)
less d s =
    if s.high == 0 then None else
    edge_of (range d.low (min d.high (s.high - 1))) (range (max s.low (d.low + 1)) s.high)

-- destination <= source
abbrev pub at_most : Bounds → Bounds → Option (Bounds × Bounds)
at_most d s = edge_of (range d.low (min d.high s.high)) (range (max s.low d.low) s.high)

-- both in the other order, if there are two
abbrev pub exchanged : Option (Bounds × Bounds) → Option (Bounds × Bounds)
exchanged found = option_map (λ (both : Bounds × Bounds). (both.1, both.0)) found

-- an edge that is taken has its relation, the other the opposite; those that speak of signs or bits
-- tell nothing
abbrev pub narrowed : Relation → Bool → Bounds → Bounds → Option (Bounds × Bounds)
narrowed Equal true d s = equal d s
narrowed Equal false d s = different d s
narrowed NotEqual true d s = different d s
narrowed NotEqual false d s = equal d s
narrowed Less true d s = less d s
narrowed Less false d s = exchanged (at_most s d)
narrowed LessOrEqual true d s = at_most d s
narrowed LessOrEqual false d s = exchanged (less s d)
narrowed Greater true d s = exchanged (less s d)
narrowed Greater false d s = at_most d s
narrowed GreaterOrEqual true d s = exchanged (at_most s d)
narrowed GreaterOrEqual false d s = less d s
narrowed AnyBitSet taken d s = Some (d, s)
narrowed SignedGreater taken d s = Some (d, s)
narrowed SignedGreaterOrEqual taken d s = Some (d, s)
narrowed SignedLess taken d s = Some (d, s)
narrowed SignedLessOrEqual taken d s = Some (d, s)

-- both as facts about words, if there are two
abbrev pub as_facts : Option (Bounds × Bounds) → Option (Fact × Fact)
as_facts found = option_map (λ (both : Bounds × Bounds). (Words both.0, Words both.1)) found

-- is each word its own low bits?
abbrev pub fits : Width → Bounds → Bool
fits Bits32 b = nat_lt b.high (2 ^ 32)
fits Bits64 b = true

-- the facts of destination and source along an edge of a compare; the last says that both are one
-- register
abbrev pub refine_words : Width → Relation → Bool → Bounds → Bounds → Bool → Option (Fact × Fact)
refine_words width relation taken d s same =
    if is_single d && is_single s
    then (if beq taken (is_taken width relation d.low s.low) then Some (Words d, Words s) else None)
    else
    if same || not (fits width d) || not (fits width s) then Some (Words d, Words s) else
    as_facts (narrowed relation taken d s)

-- the same of any two facts; a pointer stays as it is
abbrev pub refine_of : Width → Relation → Bool → Fact → Fact → Bool → Option (Fact × Fact)
refine_of width relation taken (Words d) (Words s) same = refine_words width relation taken d s same
refine_of width relation taken d s same = Some (d, s)
