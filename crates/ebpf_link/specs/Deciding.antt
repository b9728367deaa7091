-- How compares come out, by what is known of their words.
use Rattle.std.specs.Prelude.{ℕ, Bool, Option, Some, None, not, ◌≡◌}
use Rattle.instruction_set.specs.declared.instruction.Source.TheVariants.{Register}
use Rattle.instruction_set.specs.declared.operation.Relation.{Relation}
use Rattle.instruction_set.specs.declared.operation.Width.{Width}
use Rattle.interval_domain.specs.Fact.{ContainsWord, IsFact, IsInBounds}
use Rattle.word_domain.specs.Domain.{Belongs}
use Rattle.interval_domain.specs.declared.fact.Fact.{Fact}
use Rattle.accepted_programs.specs.Facts.{along, fact, source_fact}
use Rattle.accepted_programs.specs.declared.facts.Facts.{Facts}
use Rattle.instruction_set.specs.declared.instruction.Instruction.{Instruction}
use Rattle.instruction_set.specs.declared.instruction.Instruction.TheVariants.{Branch}
use Rattle.interval_domain.specs.Intervals.{intervals}
use Rattle.program_meaning.specs.Word.{is_taken}
use Rattle.word_domain.specs.declared.bounds.Bounds.{Bounds}

-- a test of two numbers has this answer for each two within these bounds
abbrev pub IsAnswer : (ℕ → ℕ → Bool) → Bounds → Bounds → Bool → Type 0
IsAnswer test first second answer = (x y : ℕ) → IsInBounds first x → IsInBounds second y → test x y ≡ answer

-- each word of a fact is within these bounds
abbrev pub AreWordsOf : Fact → Bounds → Type 0
AreWordsOf fact bounds = (w : ℕ) → ContainsWord fact w → IsInBounds bounds w

-- a compare comes out so for each two words that are known of its operands
abbrev pub Decides : Facts Fact → Instruction → Bool → Type 0
Decides facts (Branch width relation dst source distance) answer = (x y : ℕ)
    → ContainsWord (fact intervals facts dst) x → ContainsWord (source_fact intervals facts source) y
    → is_taken width relation x y ≡ answer
Decides facts _ answer = ⊥

-- what is known along an edge of a compare, by the rules of a verifier, if there is such an edge
abbrev pub edge : Facts Fact → Instruction → Bool → Option (Facts Fact)
edge facts (Branch width relation dst source distance) taken = along intervals taken width relation dst source facts
edge facts _ taken = Some facts

-- where the rules have no such edge, no two words that are known of the operands take it
abbrev pub NoneTakesWhatIsNoEdge : Type 0
NoneTakesWhatIsNoEdge = (facts : Facts Fact) (width : Width) (relation : Relation) (dst r : ℕ) (taken : Bool) (x y : ℕ)
    → along intervals taken width relation dst (Register r) facts ≡ None
    → Belongs IsFact ContainsWord (fact intervals facts dst) x → Belongs IsFact ContainsWord (fact intervals facts r) y
    → (dst ≡ r → x ≡ y) → is_taken width relation x y ≡ not taken

-- a relation that holds just where another one doesn't
abbrev pub IsOpposite : Relation → Relation → Type 0
IsOpposite relation other = (width : Width) (x y : ℕ) → is_taken width other x y ≡ not (is_taken width relation x y)
