-- What is compiled within the limit has no fault.
use Rattle.std.proofs.Common.{ℕ, ◌≡◌, ◌≤◌, List, [], ◌∷◌, length, Option, None, refl, subst, arith}
use Rattle.accepted_programs.specs.Accepted.{refusal}
use Rattle.instruction_set.specs.declared.instruction.Instruction.{Instruction}
use Rattle.interval_domain.specs.Intervals.{intervals}
use Rattle.program_interface.specs.RunSizes.{Sizes}
use Rattle.program_interface.specs.declared.TheConstants.{MOST_SLOTS}
use Rattle.question_compiler.specs.Compiled.{IsCompiled}
use Rattle.question_compiler.specs.Fault.{HasNoFault, emitted_end, most_emitted}
use Rattle.question_compiler.specs.declared.fault.QuestionFault.TheVariants as fault
use Rattle.record_questions.specs.Asked.{AreRanges}
use Rattle.record_questions.specs.declared.question.ByteRange.{ByteRange}
use Rattle.record_questions.specs.declared.question.Question.{Question}

ends_inside : (ranges : List ByteRange) (size : ℕ) → AreRanges size ranges → emitted_end ranges ≤ size
ends_inside [] size are = omega arith
ends_inside (range ∷ ranges) size are =
    let first = are.0.1 in
    let rest = ends_inside ranges size are.1 in
    omega (arith, first, rest)

pub no_fault : (q : Question) (sizes : Sizes) (program : List (Option Instruction))
    → IsCompiled q sizes program → most_emitted q ≤ sizes.limit → HasNoFault q sizes
no_fault q sizes program is within (fault.RecordsPassBlock end block) so =
    let inside = is.asked.inside in
    let a = so.0 in let b = so.1 in let c = so.2 in
    absurd (omega (arith, inside, a, b, c))
no_fault q sizes program is within (fault.EmittedPassRecord end size) so =
    let inside = ends_inside q.emitted.items q.size is.asked.emitted in
    let a = so.0 in let b = so.1 in let c = so.2 in
    absurd (omega (arith, inside, a, b, c))
no_fault q sizes program is within (fault.EmittedPassStack count) so =
    let room = is.asked.stacked in
    let b = so.1 in
    absurd (omega (arith, room, b))
no_fault q sizes program is within (fault.TooManyTallies count) so =
    let few = is.asked.few_tallies in
    let many = so.1 in
    absurd (omega (arith, few, many))
no_fault q sizes program is within fault.NoQuestion so = absurd (so.4 is.asked)
no_fault q sizes program is within (fault.OverLimit needed limit) so =
    let a = so.0 in let b = so.1 in let c = so.2 in
    absurd (omega (arith, within, a, b, c))
no_fault q sizes program is within (fault.TooLong count) so =
    let most = subst (λ (p : List (Option Instruction)). length p ≤ MOST_SLOTS) is.of_question is.is_program.most in
    let b = so.1 in
    absurd (omega (arith, most, b))
no_fault q sizes program is within (fault.Refused why) so =
    let accepted = subst (λ (p : List (Option Instruction)). refusal intervals p sizes ≡ None) is.of_question is.accepted in
    cc (so, accepted)
no_fault q sizes program is within fault.Memory so = refl
