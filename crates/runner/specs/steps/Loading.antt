-- Which slots are used, and what the bytes of a program come to.
use Rattle.std.specs.Prelude.{ℕ, Bool, false, ◌≡◌, ◌==◌, List, [], Option, Some, None, Ok}
use Rattle.zone_state.specs.declared.status.TheConstants.Status.{PROGRAM_REFUSED}
use Rattle.common_definitions.specs.Checks.{first_failed}
use Rattle.nvme_entry.specs.declared.command.LoadCommand.{LoadCommand}
use Rattle.ebpf_decode.specs.Reading.{decoded_program}
use Rattle.instruction_set.specs.declared.instruction.Instruction.{Instruction}
use Rattle.program_interface.specs.RunSizes.{Sizes}
use Rattle.word_domain.specs.Domain.{Operations}
use Rattle.device_meaning.specs.Judging.{judge_by}
use Rattle.accepted_programs.specs.Accepted.{refusal}
use Rattle.zns_commands.specs.declared.answer.Answer.{Answer}
use Rattle.device_meaning.specs.EventReplies.{submission_of}
use Rattle.device_meaning.specs.Happenings.{load_checks, load_unless, sizes_for}
use Rattle.device_meaning.specs.State.{State}
use Rattle.runner.specs.steps.Answered.{answered}
use Rattle.runner.specs.declared.active_run.ActiveRun.{ActiveRun}

-- does the run at a place, if there is one, use the program of this slot?
abbrev pub uses_slot : ℕ → Option ActiveRun → Bool
uses_slot slot None = false
uses_slot slot (Some a) = a.command.slot == slot

module _ {D : Type 0} (operations : Operations D) where
  -- these bytes spell a program that is accepted, and is kept with the sizes that it is accepted for
  pub record IsAccepted (bytes : List ℕ) (sizes : Sizes) (program : List (Option Instruction)) (kept : Sizes) : Type 0 where
    pub spelled : decoded_program bytes ≡ Ok program
    pub accepted : refusal operations program sizes ≡ None
    pub kept_is : kept ≡ sizes

  -- a Load of these bytes that no check refuses is answered so, and changes nothing; memory may have been refused to it
  pub record IsNotAccepted (bytes : List ℕ) (sizes : Sizes) (answer : Answer) : Type 0 where
    pub starved : Bool
    pub happening : (queue : ℕ) (entry : List ℕ) (s : State) (load : LoadCommand) → sizes_for s load ≡ sizes
        → let sub = submission_of queue entry bytes in
        load_unless (judge_by operations) None starved sub s load ≡ answered sub answer [] s
    pub no_data : answer.length ≡ 0

  -- a Load that no check refuses, whose program is accepted for the sizes that it asks for
  pub record IsLoadable (load : LoadCommand) (input : List ℕ) (s : State) (program : List (Option Instruction)) (kept : Sizes) : Type 0 where
    pub checks : first_failed (load_checks s load input) ≡ None
    pub accepted : IsAccepted input (sizes_for s load) program kept

-- the answer to a program that is refused
abbrev pub refused_program : ℕ → ℕ → Answer
refused_program slot reason = record { status = PROGRAM_REFUSED; dw0 = slot; dw1 = reason; length = 0 }
