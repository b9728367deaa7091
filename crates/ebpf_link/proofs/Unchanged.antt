-- Arithmetic that changes nothing.
use Rattle.std.proofs.Common.{ℕ, ◌≡◌, ◌∙◌, ◌-◌, ◌^◌, ◌<◌, ◌≤◌, arith, refl}
use Rattle.std.proofs.Math.Nat.{mod-eq_of_lt}
use Rattle.std.proofs.Math.Pow.{pow_mono}
use Rattle.std.proofs.lemmas.Nat.{and_mask, pow_pos}
use Rattle.accepted_programs.specs.Facts.{fact, source_fact}
use Rattle.accepted_programs.specs.declared.facts.Facts.{Facts}
use Rattle.ebpf_link.proofs.Masks.{at_least, at_most, has_64_bits}
use Rattle.ebpf_link.specs.Idle.{IsIdleByZero, IsWhole, LeavesAsIs}
use Rattle.ebpf_link.specs.Masks.{IsMaskOver}
use Rattle.instruction_set.specs.declared.instruction.Instruction.TheVariants.{Arithmetic}
use Rattle.instruction_set.specs.declared.instruction.Source.{Source}
use Rattle.instruction_set.specs.declared.instruction.Source.TheVariants.{Register}
use Rattle.instruction_set.specs.declared.operation.Operation.{Operation}
use Rattle.instruction_set.specs.declared.operation.Operation.TheVariants.{Add, And, LeftShift, Move, RightShift, Subtract}
use Rattle.instruction_set.specs.declared.operation.Width.{Width}
use Rattle.instruction_set.specs.declared.operation.Width.TheVariants.{Bits32, Bits64}
use Rattle.interval_domain.specs.Fact.{bounds_of}
use Rattle.interval_domain.specs.Intervals.{intervals}
use Rattle.interval_domain.specs.declared.fact.Fact.{Fact}
use Rattle.program_meaning.specs.Word.{bits, computed, low_bits, result_of}
use Rattle.program_meaning.specs.declared.word.Arithmetic.TheVariants.{Binary}
use Rattle.word_domain.specs.declared.bounds.Bounds.{Bounds}

pub added : (width : Width) (n : ℕ) → n < 2 ^ bits width → result_of width Add n 0 ≡ n
added Bits32 n below = omega arith
added Bits64 n below = omega arith

pub taken : (width : Width) (n : ℕ) → n < 2 ^ bits width → result_of width Subtract n 0 ≡ n
taken Bits32 n below = omega arith
taken Bits64 n below = omega arith

pub raised : (width : Width) (n : ℕ) → n < 2 ^ bits width → result_of width LeftShift n 0 ≡ n
raised Bits32 n below = omega arith
raised Bits64 n below = omega arith

pub lowered : (width : Width) (n : ℕ) → n < 2 ^ bits width → result_of width RightShift n 0 ≡ n
lowered Bits32 n below = omega arith
lowered Bits64 n below = omega arith

-- what a width takes all bits of is below its power
fits : (width : Width) (n : ℕ) → n < 2 ^ 64 → low_bits width n ≡ n → n < 2 ^ bits width
fits Bits32 n below whole = omega (arith, whole)
fits Bits64 n below whole = below

none_of : (width : Width) → low_bits width 0 ≡ 0
none_of Bits32 = refl
none_of Bits64 = refl

-- an operation that gives its first operand where the second is 0, where it is
pub by_zero : (facts : Facts Fact) (width : Width) (operation : Operation) (dst : ℕ) (source : Source) (first second : Bounds)
    → first ≡ bounds_of (fact intervals facts dst) → second ≡ bounds_of (source_fact intervals facts source)
    → second.high ≡ 0 → IsWhole width first.high → IsIdleByZero operation
    → LeavesAsIs facts (Arithmetic width operation dst source)
by_zero facts width operation dst source first second one other zero_alone whole idle x y hx hy same =
    let x_small : x ≤ first.high = rw one (at_most _ x hx) in
    let y_small : y ≤ second.high = rw other (at_most _ y hy) in
    let y_is : y ≡ 0 = omega arith in
    let kept : low_bits width x ≡ x = whole x x_small in
    rw y_is (rw (none_of width) (rw kept (idle width x (fits width x (has_64_bits _ x hx) kept))))

-- a move of a register into itself
pub moved : (facts : Facts Fact) (width : Width) (dst : ℕ) (first : Bounds)
    → first ≡ bounds_of (fact intervals facts dst) → IsWhole width first.high → LeavesAsIs facts (Arithmetic width Move dst (Register dst))
moved facts width dst first one whole x y hx hy same =
    let x_small : x ≤ first.high = rw one (at_most _ x hx) in
    let e : x ≡ y = same refl in
    rw (← e) (whole x x_small)

kept : (width : Width) (ones n : ℕ) → ones ≤ 20 → n < 2 ^ ones → computed (Binary width And) n (2 ^ ones - 1) ≡ n
kept Bits64 ones n few below = and_mask n ones ∙ mod-eq_of_lt below
kept Bits32 ones n few below =
    let small = pow_mono few in
    rw (mod-eq_of_lt {n = 2 ^ ones - 1} {m = 2 ^ 32} (omega (arith, small)))
    (rw (mod-eq_of_lt {n = n} {m = 2 ^ 32} (omega (arith, small))) (and_mask n ones ∙ mod-eq_of_lt below))

-- a mask over all that a word can be
pub masked : (facts : Facts Fact) (width : Width) (dst : ℕ) (source : Source) (first second : Bounds)
    → first ≡ bounds_of (fact intervals facts dst) → second ≡ bounds_of (source_fact intervals facts source)
    → second.low ≡ second.high → IsMaskOver first.high second.low → LeavesAsIs facts (Arithmetic width And dst source)
masked facts width dst source first second one other single (ones, few, is, over) x y hx hy same =
    let x_small : x ≤ first.high = rw one (at_most _ x hx) in
    let y_small : y ≤ second.high = rw other (at_most _ y hy) in
    let y_large : second.low ≤ y = rw other (at_least _ y hy) in
    let y_is : y ≡ 2 ^ ones - 1 = omega arith in
    let some = pow_pos ones in
    rw y_is (kept width ones x few (omega arith))
