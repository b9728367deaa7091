-- Programs of questions in the slots of a device.
use Rattle.std.specs.Prelude.{ℕ, Bool, false, ◌≡◌, List, [], ◌∷◌, Option, None, Ok}
use Rattle.zone_state.specs.declared.status.TheConstants.Status.{SUCCESS}
use Rattle.common_definitions.specs.Checks.{first_failed}
use Rattle.nvme_entry.specs.Entry.{decoded, identifier_of}
use Rattle.nvme_entry.specs.declared.command.Command.TheVariants as commands
use Rattle.nvme_entry.specs.declared.command.LoadCommand.{LoadCommand}
use Rattle.instruction_set.specs.declared.instruction.Instruction.{Instruction}
use Rattle.instruction_set.specs.Spelling.{program_bytes}
use Rattle.program_interface.specs.RunSizes.{Sizes}
use Rattle.device_meaning.specs.Admission.{program_in}
use Rattle.device_meaning.specs.EventReplies.{completion}
use Rattle.device_meaning.specs.Events.{AreEvents, Occurrence, state_after}
use Rattle.device_meaning.specs.Happenings.{happens, load_checks, sizes_for}
use Rattle.device_meaning.specs.Judging.{interval_judge}
use Rattle.device_meaning.specs.Reached.{IsReached}
use Rattle.device_meaning.specs.State.{State, loaded_at}
use Rattle.device_events.specs.ToldEvents as told
use Rattle.pushdown.specs.ReadBack.{LoadSucceeds}
use Rattle.question_compiler.specs.Compiled.{IsCompiled}
use Rattle.record_questions.specs.declared.question.Question.{Question}

-- a program that `compile` gives of a question, for blocks of this size and some limit
pub record IsProgramOf (q : Question) (block : ℕ) (program : List (Option Instruction)) : Type 0 where
  pub sizes : Sizes
  pub compiled : IsCompiled q sizes program
  pub same_block : sizes.block ≡ block

-- a device in a state that events leave, of which a slot has the program of a question
pub record HasQuestion (s : State) (slot : ℕ) (q : Question) : Type 0 where
  pub reached : IsReached interval_judge s
  pub program : List (Option Instruction)
  pub is_program : IsProgramOf q s.namespace.block program
  pub held : program_in (loaded_at s slot) ≡ program

-- at none of these events a Load of the slot succeeds
abbrev pub NoEventLoads : ℕ → List Occurrence → State → Type 0
NoEventLoads slot [] s = Unit {0}
NoEventLoads slot (o ∷ os) s =
    let h = happens interval_judge s o.starved o.event in
    (¬ LoadSucceeds slot o.event h.reply) × NoEventLoads slot os h.state

-- the Load of a program's bytes that this entry asks for
abbrev pub load_by : (queue : ℕ) (entry : List ℕ) (program : List (Option Instruction)) → Bool → Occurrence
load_by queue entry program starved = record { event = told.Submitted queue entry (program_bytes program); starved = starved }

-- in a state that events leave a Load of the program of a question into a slot succeeds; then events come, at none of which another Load
-- of that slot does
pub record QuestionWasLoaded (s : State) (slot : ℕ) (q : Question) : Type 0 where
  pub before : State
  pub reached : IsReached interval_judge before
  pub program : List (Option Instruction)
  pub is_program : IsProgramOf q before.namespace.block program
  -- the entry of the Load, which is completed with success
  pub queue : ℕ
  pub entry : List ℕ
  pub starved : Bool
  pub load : LoadCommand
  pub asked : decoded entry ≡ Ok (commands.Load load)
  pub same_slot : load.slot ≡ slot
  pub succeeds : (happens interval_judge before starved (told.Submitted queue entry (program_bytes program))).reply
      ≡ completion queue (identifier_of entry) SUCCESS 0 0 []
  -- the events after it
  pub events : List Occurrence
  pub bytes : AreEvents (load_by queue entry program starved ∷ events)
  pub kept : NoEventLoads slot events (happens interval_judge before starved (told.Submitted queue entry (program_bytes program))).state
  pub leaves : s ≡ state_after interval_judge (load_by queue entry program starved ∷ events) before

-- the slot has the program then
abbrev pub LoadedQuestionsStay : Type 0
LoadedQuestionsStay = (s : State) (slot : ℕ) (q : Question) → QuestionWasLoaded s slot q → HasQuestion s slot q

-- In any state an entry asks for a Load, and beside it is the program of a question, compiled for the sizes that the Load names. It
-- succeeds where no check of a Load fails, none of which is about the program, and memory isn't refused.
abbrev pub CompiledQuestionsLoad : Type 0
CompiledQuestionsLoad =
    (s : State) (queue : ℕ) (entry : List ℕ) (load : LoadCommand) (q : Question) (program : List (Option Instruction))
    → decoded entry ≡ Ok (commands.Load load) → IsCompiled q (sizes_for s load) program
    → first_failed (load_checks s load (program_bytes program)) ≡ None
    → (happens interval_judge s false (told.Submitted queue entry (program_bytes program))).reply
    ≡ completion queue (identifier_of entry) SUCCESS 0 0 []
