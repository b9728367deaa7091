-- What `verify` finds of a program, and the texts that say it.
use Rattle.std.specs.Prelude.{◌≡◌, ℕ, List, ◌++◌, codes, Option, Some, None}
use Rattle.accepted_programs.specs.Accepted.{refusal}
use Rattle.accepted_programs.specs.Emitted.{most_emitted}
use Rattle.accepted_programs.specs.declared.reason.Refusal.{Refusal}
use Rattle.instruction_set.specs.declared.instruction.Instruction.{Instruction}
use Rattle.program_interface.specs.RunSizes.{Sizes}
use Rattle.word_domain.specs.Domain.{Operations}
use Rattle.command_programs.specs.Printed.{accepted_line, accepted_object, refused_front, refused_line}
use Rattle.command_programs.specs.declared.verdict.Verdict.{Verdict}
use Rattle.command_programs.specs.declared.verdict.Verdict.TheVariants.{Accepted, Refused}
use Rattle.command_programs.specs.declared.verify.Form.{Form}
use Rattle.command_programs.specs.declared.verify.Form.TheVariants.{Json, Line, Worded}

-- a program that is judged by these operations is accepted, and emits at most so much; or this is its first refusal
abbrev pub IsVerdict : {D : Type 0} → Operations D → List (Option Instruction) → Sizes → Verdict → Type 0
IsVerdict operations program sizes (Accepted emitted words) =
    (refusal operations program sizes ≡ None) × (emitted ≡ most_emitted operations program sizes.block)
IsVerdict operations program sizes (Refused first words) = refusal operations program sizes ≡ Some first

-- that a program of so many instructions is accepted, which emits at most so many bytes, with these words
abbrev pub acceptance_text : Form → ℕ → ℕ → List ℕ → List ℕ
acceptance_text Line instructions emitted words = accepted_line instructions
acceptance_text (Worded explained facts) instructions emitted words = accepted_line instructions ++ words
acceptance_text Json instructions emitted words = accepted_object instructions emitted

-- that one is refused, with these words or fields
abbrev pub refusal_text : Form → ℕ → Refusal → List ℕ → List ℕ
refusal_text Line instructions first words = refused_line first
refusal_text (Worded explained facts) instructions first words = refused_line first ++ words
refusal_text Json instructions first words = refused_front instructions first ++ words ++ codes "}\n"
