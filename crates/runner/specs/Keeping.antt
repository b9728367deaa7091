-- What is kept of programs, and what they are again.
use Rattle.std.specs.Prelude.{ℕ, ◌≡◌, List, Option, Some, None, option_map, option_and_then, Result, Ok, Err}
use Rattle.instruction_set.specs.Spelling.{program_bytes}
use Rattle.instruction_set.specs.declared.instruction.Instruction.{Instruction}
use Rattle.program_interface.specs.RunSizes.{sizes_with}
use Rattle.word_domain.specs.declared.domain.Domain.{Ghosts}
use Rattle.verifier.specs.Verified.{program_of, sizes_of}
use Rattle.device_meaning.specs.Admission.{Loaded}
use Rattle.device_meaning.specs.Judging.{Judge, ProgramRefused, judge_by}
use Rattle.kept_device.specs.Kept.{SavedProgram}
use Rattle.runner.specs.DeviceState.{loaded_of}
use Rattle.runner.specs.declared.loaded_program.LoadedProgram.{LoadedProgram}

-- what is loaded of a program that is kept, by what the judge makes of its bytes; nothing where it refuses them
abbrev pub loaded_by : SavedProgram → Result (List (Option Instruction)) ProgramRefused → Option Loaded
loaded_by p (Ok program) = Some (record { program = program; limit = p.limit; result = p.result })
loaded_by p (Err why) = None

module _ (judge : Judge) where
  -- a program that is kept is judged again, for blocks of this size; nothing is loaded where it isn't accepted, or a group fits no block
  abbrev pub loaded_again : ℕ → SavedProgram → Option Loaded
  loaded_again block p = option_and_then (λ sizes. loaded_by p (judge p.bytes sizes)) (sizes_with block p.limit)

  -- and what is in a slot again; no value where its program isn't accepted
  abbrev pub slot_again : ℕ → Option SavedProgram → Option (Option Loaded)
  slot_again block None = Some None
  slot_again block (Some p) = option_map (λ loaded. Some loaded) (loaded_again block p)

module _ {D : Type 0} {domain : Ghosts D} where
  -- what is kept of a program: the bytes that spell it, with its limit and its result
  abbrev pub saved_of : LoadedProgram D domain → SavedProgram
  saved_of p = record { bytes = program_bytes (program_of p.prepared); limit = (sizes_of p.prepared).limit; result = p.result }

  -- what is kept of a slot
  abbrev pub saved_slot : Option (LoadedProgram D domain) → Option SavedProgram
  saved_slot = option_map saved_of

  -- what is kept of it would be loaded again
  abbrev pub KeepsAgain : LoadedProgram D domain → Type 0
  KeepsAgain p = loaded_again (judge_by domain.operations) (sizes_of p.prepared).block (saved_of p) ≡ Some (loaded_of p)
