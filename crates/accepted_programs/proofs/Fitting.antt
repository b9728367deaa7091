-- The instructions of a program fit the fields that spell them.
use Rattle.std.proofs.Common.{ℕ, zero, suc, ◌≡◌, ◌<◌, Bool, true, false, List, [], ◌∷◌, Option, Some, None, subst}
use Rattle.std.specs.Int.{w16}
use Rattle.std.specs.List.{AllByRecursion}
use Rattle.std.specs.Prelude.{FitsSigned, if◌then◌else◌}
use Rattle.program_interface.specs.declared.registers.TheConstants.{REGISTERS}
use Rattle.instruction_set.specs.Program.{IsProgram, instruction_at, is_wide, slots_of}
use Rattle.instruction_set.specs.Spelling.{Fits, first_slot}
use Rattle.instruction_set.specs.declared.instruction.Instruction.{Instruction}

-- each instruction that begins at some slot fits
abbrev AllFit : List (Option Instruction) → Type 0
AllFit slots = (slot : ℕ) (i : Instruction) → instruction_at slots slot ≡ Some i → Fits i

behind_one : (i : Instruction) (rest : List (Option Instruction)) → Fits i → AllFit rest → AllFit (Some i ∷ rest)
behind_one i rest first others zero j at = let same : i ≡ j = cc in subst Fits same first
behind_one i rest first others (suc slot) j at = others slot j at

behind_wide : (i : Instruction) (rest : List (Option Instruction)) → Fits i → AllFit rest → AllFit (Some i ∷ None ∷ rest)
behind_wide i rest first others zero j at = let same : i ≡ j = cc in subst Fits same first
behind_wide i rest first others (suc zero) j at = cc
behind_wide i rest first others (suc (suc slot)) j at = others slot j at

by_wide : (wide : Bool) (i : Instruction) (rest : List (Option Instruction)) → Fits i → AllFit rest
    → AllFit (if wide then Some i ∷ None ∷ rest else Some i ∷ rest)
by_wide true i rest first others = behind_wide i rest first others
by_wide false i rest first others = behind_one i rest first others

all_fit : (instructions : List Instruction) → AllByRecursion Fits instructions → AllFit (slots_of instructions)
all_fit [] fit slot i at = cc
all_fit (i ∷ rest) fit slot j at = by_wide (is_wide i) i (slots_of rest) fit.0 (all_fit rest fit.1) slot j at

fits_at : (program : List (Option Instruction)) → IsProgram program → (slot : ℕ) (i : Instruction)
    → instruction_at program slot ≡ Some i → Fits i
fits_at program is slot i at =
    let Q : List (Option Instruction) → Type 0 = λ slots. instruction_at slots slot ≡ Some i in
    all_fit is.instructions is.fits slot i (subst Q is.layout at)

-- the offset of each instruction is a number of 16 bits, and its destination one of the registers (RFC 9669, 3.1)
pub record HasFittingFields (program : List (Option Instruction)) : Type 0 where
  pub offsets : (slot : ℕ) (i : Instruction) → instruction_at program slot ≡ Some i → FitsSigned w16 (first_slot i).offset
  pub destinations : (slot : ℕ) (i : Instruction) → instruction_at program slot ≡ Some i → (first_slot i).dst < REGISTERS

pub fitting_fields : (program : List (Option Instruction)) → IsProgram program → HasFittingFields program
fitting_fields program is = record {
  offsets = λ slot i at. (fits_at program is slot i at).offset;
  destinations = λ slot i at. (fits_at program is slot i at).dst;
}
