use Rattle.std.proofs.Common.{◌≡◌, ◌++◌, drop}
use Rattle.instruction_set.specs.Program.{slots_of}
use Rattle.question_compiler.proofs.compiling.slots.Given as goal

abbrev pub invariant-loop-instruction : goal.invariant-loop-instruction
invariant-loop-instruction l = l.slots.items ++ slots_of (drop l.instruction-index l.code) ≡ slots_of l.code
