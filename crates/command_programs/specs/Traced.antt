-- What `trace` prints (profile).
use Rattle.std.specs.Prelude.{◌≡◌, ◌==◌, ℕ, zero, suc, false, if◌then◌else◌, List, [], ◌∷◌, ◌++◌, codes, length, replicate, Option, Some, None, IfSome}
use Rattle.std.specs.Fmt.{decimal}
use Rattle.std.specs.Io.KnownBytes.{Appends}
use Rattle.std.specs.List.{flat_map}
use Rattle.clap.specs.declared.parser.matches.ArgMatches.{ArgMatches}
use Rattle.hex.specs.Hex.{encode_lower}
use Rattle.instruction_set.specs.Program.{instruction_at}
use Rattle.instruction_set.specs.declared.instruction.Instruction.{Instruction}
use Rattle.program_interface.specs.Context.{context_bytes}
use Rattle.program_interface.specs.RunSizes.{Sizes}
use Rattle.program_interface.specs.declared.area.TheConstants.{SCRATCH_BYTES}
use Rattle.program_meaning.specs.BlockRun.{BlockRun, block_run_of}
use Rattle.program_meaning.specs.Cause.{cause_number}
use Rattle.program_meaning.specs.State.{State, at_start}
use Rattle.program_meaning.specs.Step.{StepEnd, Goes, Ends, Stuck, step_at}
use Rattle.program_meaning.specs.declared.cause.Cause.{Cause}
use Rattle.program_meaning.specs.declared.end.End.{End}
use Rattle.program_meaning.specs.declared.end.End.TheVariants.{Exit, Trap, OutOfFuel}
use Rattle.command_files.specs.Arguments.{number_of, value_of}
use Rattle.command_programs.specs.Asked.{AsksForSizes, Spell, is_set}
use Rattle.command_programs.specs.MakesProgram.{program_file_of}
use Rattle.command_programs.specs.declared.trace.TheConstants.{BLOCK}

-- the slot of an instruction that was executed, where the step there is known, and those of what comes behind it; EXIT is executed,
-- and an instruction that can't be done is not
abbrev pub executed_on : ℕ → (State → List ℕ) → Option StepEnd → List ℕ
executed_on slot more None = []
executed_on slot more (Some (Goes next)) = slot ∷ more next
executed_on slot more (Some (Ends r0 last)) = slot ∷ []
executed_on slot more (Some (Stuck at cause last)) = []

-- the slots of the instructions that are executed from a state on, with this much fuel, in their order
unfoldable pub executed : List (Option Instruction) → ℕ → ℕ → State → List ℕ
executed program limit zero s = []
executed program limit (suc fuel) s =
    executed_on s.slot (λ next. executed program limit fuel next) (step_at program limit s (instruction_at program s.slot))

-- the line of an instruction that was executed: its slot
abbrev pub slot_line : ℕ → List ℕ
slot_line slot = decimal slot ++ codes "\n"

-- what was emitted, in hexadecimal; `-` for nothing
abbrev pub group_text : List ℕ → List ℕ
group_text group = if length group == 0 then codes "-" else encode_lower group

-- the end by EXIT: R0, the number of steps and what was emitted
abbrev pub exit_line : ℕ → ℕ → List ℕ → List ℕ
exit_line r0 steps group = codes "exit " ++ decimal r0 ++ codes " " ++ decimal steps ++ codes " " ++ group_text group ++ codes "\n"

-- the end at an instruction that can't be done: its slot, and the number of the cause
abbrev pub trap_line : ℕ → Cause → List ℕ
trap_line slot cause = codes "trap " ++ decimal slot ++ codes " " ++ decimal (cause_number cause) ++ codes "\n"

-- the line that tells how a block run ended, after so many steps and with this group
abbrev pub end_line : End → ℕ → List ℕ → List ℕ
end_line (Exit r0) steps group = exit_line r0 steps group
end_line (Trap slot cause) steps group = trap_line slot cause
end_line OutOfFuel steps group = codes "fuel\n"

-- the line of the end of a block run
abbrev pub line_of_end : BlockRun → List ℕ
line_of_end run = end_line run.end run.steps run.state.group

-- the lines of a block run from a state that n steps led to, with this much fuel left
abbrev pub lines_behind : List (Option Instruction) → ℕ → ℕ → ℕ → State → List ℕ
lines_behind program limit fuel n s = flat_map slot_line (executed program limit fuel s) ++ line_of_end (block_run_of program limit fuel n s)

-- the lines of a whole block run
abbrev pub trace_lines : List (Option Instruction) → ℕ → ℕ → State → List ℕ
trace_lines program limit fuel s = lines_behind program limit fuel 0 s

-- the state at the start of the block run on a block of this size, the first and only one of a run, at LBA 0
abbrev pub first_and_only : List ℕ → ℕ → ℕ → State
first_and_only block size argument =
    at_start block (context_bytes (record { lba = 0; index = 0; count = 1; block = size; argument = argument })) (replicate SCRATCH_BYTES 0)

-- the name of the file of the block that a command line gives
abbrev pub block_file_of : ArgMatches → List ℕ
block_file_of matches = value_of matches BLOCK.now

-- the program that a file's bytes spell is run on the block that another's are, where these are told, with the limit, the argument and the
-- fuel that are asked for; its lines are printed, and nothing else, where the output tells what it has, unless more is asked for of
-- each instruction
pub record PrintsTrace (matches : ArgMatches) (contents : List ℕ → Option (List ℕ)) (before after : Option (List ℕ)) : Type 0 where
  pub program : List (Option Instruction)
  pub spelled : Spell (contents (program_file_of matches)) program
  pub block : List ℕ
  pub held : IfSome (contents (block_file_of matches)) (λ bytes. block ≡ bytes)
  pub sizes : Sizes
  pub sized : AsksForSizes matches (length block) sizes
  pub argument : ℕ
  pub argued : number_of matches (codes "argument") ≡ Some argument
  pub fuel : ℕ
  pub fuelled : number_of matches (codes "fuel") ≡ Some fuel
  pub printed : is_set matches (codes "registers") ≡ false
      → Appends before after (trace_lines program sizes.limit fuel (first_and_only block sizes.block argument))
