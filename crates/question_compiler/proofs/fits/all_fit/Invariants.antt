use Rattle.std.proofs.Common.{take}
use Rattle.instruction_set.specs.Spelling.{Fits}
use Rattle.std.specs.List.{AllByRecursion}
use Rattle.question_compiler.proofs.fits.all_fit.Given as goal

abbrev pub invariant-loop-instruction : goal.invariant-loop-instruction
invariant-loop-instruction l = AllByRecursion Fits (take l.instruction-index l.code)
