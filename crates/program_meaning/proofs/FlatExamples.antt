-- What the machine that checks nothing does outside of the areas, worked out: there a store changes, and a load reads.
use Rattle.std.proofs.Common.{ℕ, ◌+◌, ◌≡◌, List, [], ◌∷◌, Option, Some, pos, refl}
use Rattle.instruction_set.specs.declared.instruction.Instruction.{Instruction}
use Rattle.instruction_set.specs.declared.instruction.Instruction.TheVariants.{Exit, Load, StoreImmediate}
use Rattle.instruction_set.specs.declared.operation.Size.TheVariants.{Byte}
use Rattle.program_interface.specs.Area.{address_of}
use Rattle.program_interface.specs.declared.area.Area.TheVariants.{Stack}
use Rattle.program_interface.specs.declared.area.TheConstants.{STACK_BYTES}
use Rattle.program_meaning.specs.Effect.{register}
use Rattle.program_meaning.specs.Granted.{FlatState, flat_after_steps, flat_state}
use Rattle.program_meaning.specs.State.{at_start}

-- it loads a byte from where R10 points to, behind the last one of the stack, into R0, and stores 7 there
behind_the_stack : List (Option Instruction)
behind_the_stack = Some (Load Byte 0 10 (pos 0)) ∷ Some (StoreImmediate Byte 10 (pos 0) (pos 7)) ∷ Some Exit ∷ []

-- where each byte outside is 9
after_steps : ℕ → FlatState
unfolding behind_the_stack
after_steps steps = flat_after_steps behind_the_stack steps (flat_state (λ address. 9) (at_start [] [] []))

nine_is_loaded : register (after_steps 1).bare 0 ≡ 9
unfolding after_steps flat_after_steps
nine_is_loaded = refl

seven_is_stored : (after_steps 2).memory (address_of Stack + STACK_BYTES) ≡ 7
unfolding after_steps flat_after_steps
seven_is_stored = refl
