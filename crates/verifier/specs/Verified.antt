-- What was accepted.
use Rattle.std.specs.Prelude.{List, Option}
use Rattle.instruction_set.specs.declared.instruction.Instruction.{Instruction}
use Rattle.program_interface.specs.RunSizes.{Sizes}
use Rattle.word_domain.specs.declared.domain.Domain.{Ghosts}
use Rattle.verifier.specs.declared.verified.Verified.{Verified}

module _ {D : Type 0} {domain : Ghosts D} where
  -- the program, by its slots
  abbrev pub program_of : Verified D domain → List (Option Instruction)
  program_of v = v.program

  -- the sizes of the runs that it was accepted for
  abbrev pub sizes_of : Verified D domain → Sizes
  sizes_of v = v.sizes
