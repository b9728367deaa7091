-- A register that is made again of another one, of which more is known.
use Rattle.std.specs.Prelude.{ℕ, ℤ, List, [], ◌∷◌, ◌+ℤ◌, ◌≤ℤ◌, pos}
use Rattle.instruction_set.specs.declared.instruction.Instruction.{Instruction}
use Rattle.instruction_set.specs.declared.instruction.Instruction.TheVariants.{Arithmetic}
use Rattle.instruction_set.specs.declared.instruction.Source.TheVariants.{Immediate, Register}
use Rattle.instruction_set.specs.declared.operation.Operation.TheVariants.{Add, Move}
use Rattle.instruction_set.specs.declared.operation.Width.TheVariants.{Bits64}
use Rattle.interval_domain.specs.Fact.{IsInBounds}
use Rattle.word_domain.specs.declared.bounds.Bounds.{Bounds}

-- each number within bounds, with another one added to it, is nothing below 0, and at most so much
abbrev pub IsMadeWithin : Bounds → ℤ → ℕ → Type 0
IsMadeWithin bounds more most = (x : ℕ) → IsInBounds bounds x → (pos 0 ≤ℤ (pos x +ℤ more)) × ((pos x +ℤ more) ≤ℤ pos most)

-- a register gets what another one has, and a number more
abbrev pub made_again : ℕ → ℕ → ℤ → List Instruction
made_again register from more = Arithmetic Bits64 Move register (Register from) ∷ Arithmetic Bits64 Add register (Immediate more) ∷ []
