-- How the profiles' verifiers compare.
use Rattle.std.specs.Prelude.{◌≡◌, List, Option, None}
use Rattle.instruction_set.specs.declared.instruction.Instruction.{Instruction}
use Rattle.program_interface.specs.RunSizes.{Sizes}
use Rattle.word_domain.specs.Domain.{Operations}
use Rattle.accepted_programs.specs.Accepted.{refusal}

-- each program that is accepted over the second operations is accepted over the first
abbrev pub AcceptsWhatIsAccepted : {D E : Type 0} → Operations D → Operations E → Type 0
AcceptsWhatIsAccepted first second = (program : List (Option Instruction)) (sizes : Sizes)
    → refusal second program sizes ≡ None → refusal first program sizes ≡ None
